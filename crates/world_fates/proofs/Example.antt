-- A script over three nodes, in which two nodes tell of one fate, and one in which a delivery is told, computed.
use Rattle.std.proofs.Common.{refl, inl, inr}
use Rattle.std.specs.Fmt.{digits}
use Rattle.hex.specs.Hex.{decode_pairs}
use Rattle.node_model.specs.Recorded.{has_record}
use Rattle.mc_types.specs.Texts.{id_in}
use Rattle.octet_fields.specs.Reading.{content_at, number_at, parameters_at, taken_at, text_at, tlv_at, tlvs_from}
use Rattle.pdu_codec.specs.Bodies.{body_at}
use Rattle.pdu_codec.specs.Pdu.{framed, read_pdu}
use Rattle.pdu_frames.specs.Frames.{cut_within}
use Rattle.script_lines.specs.Said.{behind, grant_said, named_said, node_at, nodes_in, nodes_said, nodes_with, number_of, octets_parts, octets_said}
use Rattle.script_lines.specs.Said.{said_of, settle_said, tick_said, words_said}
use Rattle.script_lines.specs.Said as said
use Rattle.delivery.specs.Outcomes.{outcome_by}
use Rattle.script_text.specs.Attempts.{all_given_up}
use Rattle.script_text.specs.Pushes.{accounts_up, session_numbers, target_in}
use Rattle.script_text.specs.Receipts.{all_posted, goes_out_up_to, posted_for_all}
use Rattle.script_text.specs.Runner.{on_frame, on_frames, on_octets, told}
use Rattle.script_text.specs.Script.{prints_from, step_of}
use Rattle.script_text.specs.World.{due_among, settles}
use Rattle.world_fates.specs.Example.{ADeliveryIsTold, TwoNodesTellOneFate}

pub two_nodes_tell : TwoNodesTellOneFate
unfolding prints_from step_of said_of words_said named_said nodes_said octets_said octets_parts settle_said nodes_in nodes_with node_at number_of behind
    said.number_at cut_within decode_pairs on_octets on_frames on_frame told all_given_up accounts_up session_numbers target_in goes_out_up_to
    posted_for_all all_posted settles due_among has_record read_pdu framed body_at content_at number_at parameters_at taken_at text_at tlv_at tlvs_from
    id_in digits
two_nodes_tell = record {
  cancel = _;
  receipt = _;
  query = _;
  cancel_in = inr (inr (inl refl));
  receipt_in = inr (inr (inr (inl refl)));
  query_in = inr (inr (inr (inr (inr (inl refl)))));
  deletion = record { session = _; id = _; pdu = _; printed = refl; status = refl; body = refl; message = refl };
  report = record { session = _; sequence = _; optional = _; report = _; printed = refl; message = refl; state_is = refl };
  state = record { pdu = _; answer = _; printed = refl; status = refl; body = refl; message = refl; state_is = refl };
}

pub delivery_told : ADeliveryIsTold
unfolding prints_from step_of said_of words_said named_said nodes_said octets_said octets_parts settle_said tick_said grant_said nodes_in nodes_with node_at
    number_of behind said.number_at cut_within decode_pairs on_octets on_frames on_frame told all_given_up accounts_up session_numbers target_in
    goes_out_up_to posted_for_all all_posted settles due_among has_record outcome_by read_pdu framed body_at content_at number_at parameters_at taken_at
    text_at tlv_at tlvs_from id_in digits
delivery_told = record {
  receipt = _;
  among = inr (inr (inr (inl refl)));
  report = record { session = _; sequence = _; optional = _; report = _; printed = refl; message = refl; state_is = refl };
}
