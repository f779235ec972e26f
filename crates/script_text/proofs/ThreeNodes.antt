-- A script over three nodes, and its text, computed.
use Rattle.std.proofs.Common.{refl}
use Rattle.std.specs.Fmt.{digits}
use Rattle.hex.specs.Hex.{decode_pairs, encode_with}
use Rattle.node_model.specs.Recorded.{has_record}
use Rattle.mc_types.specs.Texts.{id_in}
use Rattle.octet_fields.specs.Reading.{content_at, number_at, parameters_at, taken_at, text_at, tlv_at, tlvs_from}
use Rattle.pdu_codec.specs.Bodies.{body_at}
use Rattle.pdu_codec.specs.Pdu.{framed, octets_of, read_pdu}
use Rattle.pdu_frames.specs.Frames.{cut_within}
use Rattle.script_lines.specs.Said.{behind, crash_said, deliver_said, named_said, node_at, nodes_in, nodes_said, nodes_with, number_of}
use Rattle.script_lines.specs.Said.{octets_parts, octets_said, replay_said, restart_said, said_of, settle_said, tick_said, words_said}
use Rattle.script_lines.specs.Said as said
use Rattle.script_text.specs.Attempts.{all_given_up}
use Rattle.script_text.specs.Pushes.{accounts_up, session_numbers, target_in}
use Rattle.script_text.specs.Receipts.{all_posted, goes_out_up_to, posted_for_all}
use Rattle.script_text.specs.Runner.{on_frame, on_frames, on_octets, told}
use Rattle.script_text.specs.World.{all_come, comes_to, due_among, replays, settles}
use Rattle.script_text.specs.Script.{bad_from, prints_from, step_of}
use Rattle.script_text.specs.ThreeNodes.{ThreeNodesPrint}

pub three_nodes_print : ThreeNodesPrint
unfolding prints_from bad_from step_of said_of words_said named_said nodes_said octets_said octets_parts deliver_said crash_said tick_said settle_said restart_said replay_said nodes_in nodes_with node_at number_of behind said.number_at cut_within decode_pairs on_octets on_frames on_frame told all_given_up accounts_up session_numbers target_in goes_out_up_to posted_for_all all_posted settles due_among comes_to all_come replays has_record read_pdu framed body_at content_at number_at parameters_at taken_at text_at tlv_at tlvs_from id_in octets_of digits encode_with
three_nodes_print = (refl, refl)
