-- The checks of a submit_sm, what is taken of it, and what a query_sm shows of a chain.
use Rattle.std.specs.Prelude.{ℕ, Bool, ◌%◌, min, nat_lt, ◌==◌, ◌||◌, not, List, [], ◌∷◌, filter, length, Option, Some, None, Result, Ok, Err, if◌then◌else◌}
use Rattle.std.specs.Str.{bytes_eq}
use Rattle.std.specs.Option.{option_map}
use Rattle.mc_model.specs.message.Ids.{most_serial}
use Rattle.mc_model.specs.message.Submission.{Submission}
use Rattle.mc_model.specs.message.Decree.{Decree}
use Rattle.mc_model.specs.message.Chain.{Chain, final_in, error_in, untold}
use Rattle.pdu_tables.specs.declared.status.Status.{Status}
use Rattle.pdu_tables.specs.declared.status.Status.TheVariants as statuses
use Rattle.pdu_tables.specs.TagCodes.{tag_code}
use Rattle.pdu_tables.specs.declared.tag.Tag.TheVariants.{MessagePayload}
use Rattle.pdu_codec.specs.Text.{has_tag_among}
use Rattle.pdu_codec.specs.Tlv.{value_of}
use Rattle.pdu_bodies.specs.declared.pdu.Message.{Message}
use Rattle.fate_chain.specs.Content.{most_text}
use Rattle.fate_chain.specs.States.{state_of}
use Rattle.fate_chain.specs.Submissions.{address_of}
use Rattle.desk.specs.declared.request.Answer.{Answer}
use Rattle.desk.specs.declared.request.Answer.TheVariants.{Shown}
use Rattle.desk.specs.Times.{Times, times_of}

-- ---- a submit_sm

-- bits 1 and 0 of registered_delivery are both set (SMPP 3.4, 5.2.17)
abbrev pub asks_reserved_receipt : Message → Bool
asks_reserved_receipt message = message.registered_delivery % 4 == 3

-- the status of the first check that fails
abbrev pub first_failing : List (Bool × Status) → Option Status
first_failing [] = None
first_failing (check ∷ checks) = if check.0 then Some check.1 else first_failing checks

-- the checks of a submit_sm before its times: its destination, and registered_delivery
abbrev pub fields_refusal : Bool → Message → Option Status
fields_refusal has_route message =
    first_failing (
    (bytes_eq message.destination.digits [] || not has_route, statuses.InvalidDestinationAddress)
    ∷ (asks_reserved_receipt message, statuses.InvalidRegisteredDelivery)
    ∷ []
    )

-- and those behind: the serial that is next, and whether the desk is busy
abbrev pub room_refusal : ℕ → Bool → Option Status
room_refusal serial busy = first_failing ((nat_lt most_serial serial, statuses.MessageQueueFull) ∷ (busy, statuses.Throttled) ∷ [])

-- a result, unless there is a refusal
abbrev pub unless : {A : Type 0} → Option Status → Result A Status → Result A Status
unless None result = result
unless (Some status) result = Err status

abbrev pub with_room : ℕ → Bool → Result Times Status → Result Times Status
with_room serial busy (Err status) = Err status
with_room serial busy (Ok times) = unless (room_refusal serial busy) (Ok times)

-- The times of a submit_sm, or the status of the first of its checks that fails: by whether a route leads from its
-- destination, now, the validity of a message that asks for none, the serial that is next, and whether the desk is busy.
abbrev pub submit_judged : Bool → ℕ → ℕ → ℕ → Bool → Message → Result Times Status
submit_judged has_route now validity serial busy message =
    unless (fields_refusal has_route message) (with_room serial busy (times_of validity now message))

-- Its text is its short_message, or if that is empty the value of the first message_payload (SMPP 3.4, 4.4.1 and 5.3.2.32).
abbrev pub payload_in : Message → Option (List ℕ)
payload_in message = if bytes_eq message.short_message [] then value_of (tag_code MessagePayload) message.tlvs else None

abbrev pub text_by : List ℕ → Option (List ℕ) → List ℕ
text_by short None = short
text_by short (Some payload) = payload

abbrev pub text_of : Message → List ℕ
text_of message = text_by message.short_message (payload_in message)

abbrev pub is_too_long : Message → Bool
is_too_long message = nat_lt most_text (length (text_of message))

-- the optional parameters that are passed on: user_message_reference and the three of concatenated messages
abbrev pub passed_tags : List ℕ
passed_tags = 0x0204 ∷ 0x020c ∷ 0x020e ∷ 0x020f ∷ []

-- what is taken of it
abbrev pub submission_of : List ℕ → List ℕ → Times → Message → Submission
submission_of account target times message = record {
  submitter = account;
  target = target;
  service_type = message.service_type;
  source = address_of message.source;
  destination = address_of message.destination;
  esm_class = message.esm_class;
  protocol_id = message.protocol_id;
  priority_flag = message.priority_flag;
  registered_delivery = message.registered_delivery;
  data_coding = message.data_coding;
  schedule = times.schedule;
  expiry = times.expiry;
  text = text_of message;
  passed = filter (has_tag_among passed_tags) message.tlvs;
}

-- ---- a query_sm

-- the moment of a final state, which is that of its fate, told or not
abbrev pub ended_at : List Decree → Option ℕ
ended_at [] = None
ended_at (newest ∷ older) = option_map (λ final. newest.moment) (final_in (newest ∷ older))

abbrev pub final_moment : List Decree → Option ℕ
final_moment decrees = ended_at (untold decrees)

-- the state of a chain, the moment of a final one, and the error, cut to what error_code has room for (own)
abbrev pub shown : Chain → Answer
shown chain = Shown (state_of (final_in chain.decrees)) (final_moment chain.decrees) (min (error_in chain.decrees) 255)
