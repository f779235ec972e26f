-- The deliver_sm of an attempt (SMPP 3.4, 4.6.1).
use Rattle.std.specs.Prelude.{◌≡◌, ℕ, List, [], ◌∷◌, Some, bit_and, if◌then◌else◌}
use Rattle.mc_model.specs.message.Chain.{taken_in}
use Rattle.mc_model.specs.message.Decree.{Attempt, Decree, Failed, Fate, Kind, Taken, Told}
use Rattle.mc_model.specs.message.Submission.{Address as Party, Submission}
use Rattle.fate_chain.specs.Content.{is_long}
use Rattle.pdu_tables.specs.TagCodes.{tag_code}
use Rattle.pdu_tables.specs.declared.tag.Tag.TheVariants.{MessagePayload}
use Rattle.pdu_fields.specs.declared.address.Address.{Address}
use Rattle.pdu_bodies.specs.declared.pdu.Body.TheVariants.{DeliverSm}
use Rattle.pdu_bodies.specs.declared.pdu.Message.{Message}
use Rattle.pdu_bodies.specs.declared.pdu.Pdu.{Pdu}

-- the newest decree is an attempt
abbrev pub IsAttempt : Kind → Type 0
IsAttempt (Taken message) = ⊥
IsAttempt (Attempt number) = Unit {0}
IsAttempt (Failed error) = ⊥
IsAttempt (Fate final error) = ⊥
IsAttempt Told = ⊥

abbrev pub EndsInAttempt : List Decree → Type 0
EndsInAttempt [] = ⊥
EndsInAttempt (newest ∷ older) = IsAttempt newest.kind

-- an address, as a PDU has it
abbrev pub on_wire : Party → Address
on_wire party = record { ton = party.ton; npi = party.npi; digits = party.digits }

-- Of esm_class the features UDHI and reply path alone go on (5.2.12).
abbrev pub features_in : ℕ → ℕ
features_in esm_class = bit_and esm_class 0xc0

-- a text that is too long for a short_message goes on as message_payload, before the other optional parameters (5.3.2.32)
abbrev pub short_of : List ℕ → List ℕ
short_of text = if is_long text then [] else text

abbrev pub parameters_of : List ℕ → List (ℕ × List ℕ) → List (ℕ × List ℕ)
parameters_of text passed = if is_long text then (tag_code MessagePayload, text) ∷ passed else passed

-- what was taken goes on; both times are empty, and the other numbers zero (own)
abbrev pub delivered_message : Submission → Message
delivered_message taken = record {
  service_type = taken.service_type;
  source = on_wire taken.source;
  destination = on_wire taken.destination;
  esm_class = features_in taken.esm_class;
  protocol_id = taken.protocol_id;
  priority_flag = taken.priority_flag;
  schedule_delivery_time = [];
  validity_period = [];
  registered_delivery = 0;
  replace_if_present_flag = 0;
  data_coding = taken.data_coding;
  sm_default_msg_id = 0;
  short_message = short_of taken.text;
  tlvs = parameters_of taken.text taken.passed;
}

abbrev pub delivery_of : ℕ → Submission → Pdu
delivery_of sequence taken = record { status = 0; sequence = sequence; body = DeliverSm (delivered_message taken) }

-- of a chain, by what was taken
pub record IsDelivery (decrees : List Decree) (sequence : ℕ) (pdu : Pdu) : Type 0 where
  pub taken : Submission
  pub message : taken_in decrees ≡ Some taken
  pub pdu_is : pdu ≡ delivery_of sequence taken
