-- Two scripts that are calm, and their texts, computed.
use Rattle.std.proofs.Common.{◌≡◌, Some, refl, arith}
use Rattle.std.specs.Fmt.{digits}
use Rattle.hex.specs.Hex.{decode_pairs, encode_with}
use Rattle.mc_types.specs.Texts.{id_in}
use Rattle.octet_fields.specs.Reading.{content_at, number_at, parameters_at, taken_at, text_at, tlv_at, tlvs_from}
use Rattle.pdu_codec.specs.Bodies.{body_at}
use Rattle.pdu_codec.specs.Pdu.{framed, octets_of, read_pdu}
use Rattle.pdu_frames.specs.Frames.{cut_within}
use Rattle.script_lines.specs.Said.{behind, grant_said, named_said, node_at, nodes_in, nodes_said, nodes_with, number_of, octets_parts}
use Rattle.script_lines.specs.Said.{octets_said, said_of, settle_said, tick_said, words_said}
use Rattle.script_lines.specs.Said as said
use Rattle.delivery.specs.Outcomes.{outcome_by}
use Rattle.receipts.specs.Texts.{receipt_text}
use Rattle.smpp_time.specs.Calendar.{date_of}
use Rattle.script_text.specs.Events.{Play, events_from, play_of, play_of_lines}
use Rattle.script_text.specs.OneNode.{happen, happens, one_node_text}
use Rattle.script_text.specs.Pushes.{accounts_up, session_numbers, target_in}
use Rattle.script_text.specs.Receipts.{all_posted, goes_out_up_to, posted_for_all}
use Rattle.script_text.specs.Calm.{IsCalm, are_calm}
use Rattle.script_text.specs.Example.{first_script, first_text, second_script, second_text}

-- what it says, read
first_play : (play : Play) × (play_of first_script ≡ Some play)
unfolding play_of_lines events_from said_of words_said named_said nodes_said octets_said octets_parts settle_said nodes_in nodes_with node_at number_of behind said.number_at cut_within decode_pairs
first_play = (_, refl)

pub first_calm : IsCalm first_script
unfolding first_play play_of_lines events_from said_of words_said named_said nodes_said octets_said octets_parts settle_said nodes_in nodes_with node_at number_of behind said.number_at cut_within decode_pairs are_calm happen happens goes_out_up_to all_posted read_pdu framed body_at content_at number_at parameters_at taken_at text_at tlv_at tlvs_from id_in
first_calm = record {
  play = first_play.0;
  played_by = first_play.1;
  calm = refl;
  messages = omega arith;
  tickets = omega arith;
}

pub first_told : one_node_text first_script ≡ first_text
unfolding first_play play_of_lines events_from said_of words_said named_said nodes_said octets_said octets_parts settle_said nodes_in nodes_with node_at number_of behind said.number_at cut_within decode_pairs happen happens goes_out_up_to all_posted read_pdu framed body_at content_at number_at parameters_at taken_at text_at tlv_at tlvs_from id_in octets_of digits encode_with
first_told = refl

-- ---- the second

second_play : (play : Play) × (play_of second_script ≡ Some play)
unfolding play_of_lines events_from said_of words_said named_said nodes_said octets_said octets_parts settle_said tick_said grant_said nodes_in nodes_with node_at number_of behind said.number_at cut_within decode_pairs id_in
second_play = (_, refl)

pub second_calm : IsCalm second_script
unfolding second_play play_of_lines events_from said_of words_said named_said nodes_said octets_said octets_parts settle_said tick_said grant_said nodes_in nodes_with node_at number_of behind said.number_at cut_within decode_pairs are_calm happen happens goes_out_up_to posted_for_all all_posted session_numbers accounts_up target_in outcome_by read_pdu framed body_at content_at number_at parameters_at taken_at text_at tlv_at tlvs_from id_in
second_calm = record {
  play = second_play.0;
  played_by = second_play.1;
  calm = refl;
  messages = omega arith;
  tickets = omega arith;
}

pub second_told : one_node_text second_script ≡ second_text
unfolding second_play play_of_lines events_from said_of words_said named_said nodes_said octets_said octets_parts settle_said tick_said grant_said nodes_in nodes_with node_at number_of behind said.number_at cut_within decode_pairs happen happens goes_out_up_to posted_for_all all_posted session_numbers accounts_up target_in outcome_by read_pdu framed body_at content_at number_at parameters_at taken_at text_at tlv_at tlvs_from id_in receipt_text date_of octets_of digits encode_with
second_told = refl
