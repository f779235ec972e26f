-- Two lines of a text that tell one fate, computed.
use Rattle.std.proofs.Common.{◌≡◌, ℕ, List, [], ◌∷◌, ◌++◌, Ok, refl, inl, inr, arith}
use Rattle.std.specs.Prelude.{codes, drop}
use Rattle.std.specs.Fmt.{digits}
use Rattle.std.proofs.lemmas.List.Elements.{All-from_recursion}
use Rattle.hex.specs.Hex.{decode_of, decode_pairs, encode_with}
use Rattle.hex.proofs.HexLemmas.{decode_of-ok}
use Rattle.node_model.specs.Recorded.{has_record}
use Rattle.mc_types.specs.Texts.{id_in}
use Rattle.octet_fields.specs.Reading.{content_at, number_at, parameters_at, taken_at, text_at, tlv_at, tlvs_from}
use Rattle.pdu_bodies.specs.declared.pdu.Pdu.{Pdu}
use Rattle.pdu_codec.specs.Bodies.{body_at}
use Rattle.pdu_codec.specs.Pdu.{framed, octets_of, read_pdu}
use Rattle.pdu_frames.specs.Frames.{cut_within}
use Rattle.receipts.specs.Texts.{receipt_text}
use Rattle.smpp_time.specs.Calendar.{date_of}
use Rattle.script_lines.specs.Said.{behind, grant_said, named_said, node_at, nodes_in, nodes_said, nodes_with, number_of, octets_parts, octets_said}
use Rattle.script_lines.specs.Said.{said_of, settle_said, tick_said, words_said}
use Rattle.script_lines.specs.Said as said
use Rattle.script_text.specs.Attempts.{all_given_up}
use Rattle.script_text.specs.Pushes.{accounts_up, session_numbers, target_in}
use Rattle.script_text.specs.Receipts.{all_posted, goes_out_up_to, posted_for_all}
use Rattle.script_text.specs.Runner.{on_frame, on_frames, on_octets, told}
use Rattle.script_text.specs.Script.{prints_from, step_of}
use Rattle.script_text.specs.World.{due_among, settles}
use Rattle.world_fates.specs.Example.{its_message}
use Rattle.octet_laws.specs.Sessions.{cancel_sm_resp, heard_behind}
use Rattle.octet_laws.specs.Example.{ACancelIsAnswered, TwoLinesTellOneFate, answer_line, receipt_line}
use Rattle.octet_laws.specs.Laws.{IsSpelledAs}
use Rattle.octet_laws.specs.Tellings.{TellsFate, esme_rok}
use Rattle.octet_laws.proofs.Reading.{read_spelled}
use Rattle.octet_laws.proofs.Words.{tests_lack}

answer_digits : List ℕ
answer_digits = drop 8 answer_line

receipt_digits : List ℕ
receipt_digits = drop 8 receipt_line

answer_octets : (octets : List ℕ) × (decode_of answer_digits ≡ Ok octets)
unfolding answer_digits decode_pairs
answer_octets = (_, refl)

answer_pdu : (pdu : Pdu) × (read_pdu answer_octets.0 ≡ Ok pdu)
unfolding answer_digits answer_octets decode_pairs read_pdu framed body_at content_at number_at parameters_at taken_at text_at tlv_at tlvs_from
answer_pdu = (_, refl)

answer_spelled : IsSpelledAs answer_octets.0 answer_pdu.0.status answer_pdu.0.body
answer_spelled = read_spelled answer_octets.0 answer_pdu.0 (decode_of-ok answer_digits answer_octets.0 answer_octets.1).3 answer_pdu.1

answer_tells : TellsFate answer_line its_message 4
unfolding answer_digits answer_octets answer_pdu decode_pairs read_pdu framed body_at content_at number_at parameters_at taken_at text_at tlv_at tlvs_from digits
answer_tells = record {
  octets = answer_octets.0;
  line_is = record { node = 2; session = 1; digits = answer_digits; line_is = refl; hex = answer_octets.1 };
  tells = inl (record {
    answer = record { message_id = its_message; final_date = codes "000101000000000+"; message_state = 4; error_code = 0 };
    pdu = answer_spelled;
    message = refl;
    state_is = refl;
    final = λ same. absurd (omega (arith, same));
  });
}

receipt_octets : (octets : List ℕ) × (decode_of receipt_digits ≡ Ok octets)
unfolding receipt_digits decode_pairs
receipt_octets = (_, refl)

receipt_pdu : (pdu : Pdu) × (read_pdu receipt_octets.0 ≡ Ok pdu)
unfolding receipt_digits receipt_octets decode_pairs read_pdu framed body_at content_at number_at parameters_at taken_at text_at tlv_at tlvs_from
receipt_pdu = (_, refl)

receipt_spelled : IsSpelledAs receipt_octets.0 receipt_pdu.0.status receipt_pdu.0.body
receipt_spelled = read_spelled receipt_octets.0 receipt_pdu.0 (decode_of-ok receipt_digits receipt_octets.0 receipt_octets.1).3 receipt_pdu.1

receipt_tells : TellsFate receipt_line its_message 4
unfolding receipt_digits receipt_octets receipt_pdu decode_pairs read_pdu framed body_at content_at number_at parameters_at taken_at text_at tlv_at tlvs_from digits
receipt_tells = record {
  octets = receipt_octets.0;
  line_is = record { node = 1; session = 1; digits = receipt_digits; line_is = refl; hex = receipt_octets.1 };
  tells = inr (record {
    status = 0;
    message = record {
      service_type = [];
      source = record { ton = 1; npi = 1; digits = codes "155" };
      destination = record { ton = 1; npi = 1; digits = codes "144" };
      esm_class = 4;
      protocol_id = 0;
      priority_flag = 0;
      schedule_delivery_time = [];
      validity_period = [];
      registered_delivery = 0;
      replace_if_present_flag = 0;
      data_coding = 0;
      sm_default_msg_id = 0;
      short_message =
          codes "id:1000100001 sub:001 dlvrd:000 submit date:0001010000 done date:0001010000 stat:DELETED err:000 text:Hi";
      tlvs = (0x001e, codes "1000100001" ++ 0 ∷ []) ∷ (0x0427, 4 ∷ []) ∷ [];
    };
    pdu = receipt_spelled;
    receipt = refl;
    text = record {
      submitted = codes "001";
      delivered = codes "000";
      submit_date = codes "0001010000";
      done_date = codes "0001010000";
      name = codes "DELETED";
      rest = codes " err:000 text:Hi";
      one_word = All-from_recursion (λ (octet : ℕ). octet ≡ 32 → ⊥) its_message (tests_lack 32 its_message refl);
      submitted_digits = refl;
      delivered_digits = refl;
      submit_digits = refl;
      done_digits = refl;
      named = inr (inr (inl refl));
      text_is = refl;
    };
  });
}

pub two_lines_tell : TwoLinesTellOneFate
unfolding prints_from step_of said_of words_said named_said nodes_said octets_said octets_parts settle_said nodes_in nodes_with node_at number_of behind said.number_at cut_within decode_pairs encode_with on_octets on_frames on_frame told all_given_up accounts_up session_numbers target_in goes_out_up_to posted_for_all all_posted settles due_among has_record read_pdu framed octets_of receipt_text date_of body_at content_at number_at parameters_at taken_at text_at tlv_at tlvs_from id_in digits
two_lines_tell = record {
  receipt_in = inr (inr (inr (inl refl)));
  answer_in = inr (inr (inr (inr (inr (inl refl)))));
  receipt = receipt_tells;
  answer = answer_tells;
}

cancel_line : List ℕ
cancel_line = codes "pdu 1 1 00000010800000080000000000000004"

cancel_octets : (octets : List ℕ) × (decode_of (drop 8 cancel_line) ≡ Ok octets) × (octets ≡ framed cancel_sm_resp esme_rok 4 [])
unfolding cancel_line decode_pairs framed
cancel_octets = (_, refl, refl)

pub cancel_answered : ACancelIsAnswered
unfolding prints_from step_of said_of words_said named_said nodes_said octets_said octets_parts settle_said nodes_in nodes_with node_at number_of behind said.number_at cut_within decode_pairs encode_with on_octets on_frames on_frame told all_given_up accounts_up session_numbers target_in goes_out_up_to posted_for_all all_posted settles due_among has_record read_pdu framed octets_of receipt_text date_of body_at content_at number_at parameters_at taken_at text_at tlv_at tlvs_from id_in digits heard_behind answer_digits answer_octets answer_pdu cancel_line cancel_octets
cancel_answered = record {
  cancelled = cancel_octets.0;
  cancel_answer = record {
    is_node = record { least = omega arith; most = omega arith };
    is_session = record { least = omega arith; most = omega arith };
    written = cancel_line;
    among = inl refl;
    is_pdu = record { node = 1; session = 1; digits = drop 8 cancel_line; line_is = refl; hex = cancel_octets.1 };
    node_is = refl;
    session_is = refl;
  };
  is_cancel_answer = cancel_octets.2;
  told = answer_octets.0;
  query_answer = record {
    is_node = record { least = omega arith; most = omega arith };
    is_session = record { least = omega arith; most = omega arith };
    written = answer_line;
    among = inl refl;
    is_pdu = record { node = 2; session = 1; digits = answer_digits; line_is = refl; hex = answer_octets.1 };
    node_is = refl;
    session_is = refl;
  };
  answer = record { message_id = its_message; final_date = codes "000101000000000+"; message_state = 4; error_code = 0 };
  is_query_answer = answer_spelled;
  message = refl;
  fresh = refl;
}
