-- The deliver_sm of a delivery receipt, and of which chains there is one (SMPP 3.4, 4.6.1, 5.2.17 and appendix B).
use Rattle.std.specs.Prelude.{◌≡◌, ℕ, List, [], ◌∷◌, ◌++◌, slice_get, reverse, Some}
use Rattle.std.specs.Fmt.{decimal}
use Rattle.mc_model.specs.message.Chain.{Chain, final_in, taken_in, untold}
use Rattle.mc_model.specs.message.Decree.{Decree, Fate, Final, Told}
use Rattle.mc_model.specs.message.Submission.{Address as Party, Submission}
use Rattle.mc_model.specs.message.Receipts.{AsksReceipt}
use Rattle.fate_chain.specs.States.{final_code}
use Rattle.pdu_fields.specs.declared.address.Address.{Address}
use Rattle.pdu_bodies.specs.declared.pdu.Body.TheVariants.{DeliverSm}
use Rattle.pdu_bodies.specs.declared.pdu.Message.{Message}
use Rattle.pdu_bodies.specs.declared.pdu.Pdu.{Pdu}
use Rattle.receipts.specs.Texts.{Report, receipt_text}

-- what a chain that ends in a fate, told or not, reports: it ended with the fate
pub record Reports (chain : Chain) (report : Report) : Type 0 where
  pub oldest : Decree
  pub newest : Decree
  pub first : slice_get (reverse chain.decrees) 0 ≡ Some oldest
  pub last : slice_get (untold chain.decrees) 0 ≡ Some newest
  pub id : report.id ≡ chain.id
  pub taken : taken_in chain.decrees ≡ Some report.taken
  pub began : report.began ≡ oldest.moment
  pub ended : report.ended ≡ newest.moment
  pub fate : newest.kind ≡ Fate report.final report.error

-- the message has a final state
abbrev pub HasFate : List Decree → Type 0
HasFate decrees = (final : Final) × (final_in decrees ≡ Some final)

-- and the submit_sm asked for a receipt of it
pub record IsAsked (decrees : List Decree) : Type 0 where
  pub final : Final
  pub taken : Submission
  pub ends : final_in decrees ≡ Some final
  pub message : taken_in decrees ≡ Some taken
  pub asks : AsksReceipt final taken

-- the chain ends in a Told
abbrev pub IsTold : List Decree → Type 0
IsTold [] = ⊥
IsTold (newest ∷ older) = newest.kind ≡ Told

-- behind what was there stands what a chain reports of which a receipt was asked
pub record AppendsReceipt (chain : Chain) (before after : List ℕ) : Type 0 where
  pub report : Report
  pub reports : Reports chain report
  pub asked : AsksReceipt report.final report.taken
  pub told : IsTold chain.decrees
  pub text_is : after ≡ before ++ receipt_text report

abbrev pub on_wire : Party → Address
on_wire party = record { ton = party.ton; npi = party.npi; digits = party.digits }

-- of esm_class, that the message is a receipt (5.2.12)
abbrev pub is_receipt : ℕ
is_receipt = 4

-- the id as receipted_message_id, and the final state as message_state (5.3.2.12 and 5.3.2.35)
abbrev pub receipt_tlvs : Report → List (ℕ × List ℕ)
receipt_tlvs report = (0x001e, decimal report.id ++ 0 ∷ []) ∷ (0x0427, final_code report.final ∷ []) ∷ []

-- it goes back: from the destination to the source
abbrev pub receipt_message : Report → Message
receipt_message report = record {
  service_type = report.taken.service_type;
  source = on_wire report.taken.destination;
  destination = on_wire report.taken.source;
  esm_class = is_receipt;
  protocol_id = 0;
  priority_flag = 0;
  schedule_delivery_time = [];
  validity_period = [];
  registered_delivery = 0;
  replace_if_present_flag = 0;
  data_coding = 0;
  sm_default_msg_id = 0;
  short_message = receipt_text report;
  tlvs = receipt_tlvs report;
}

abbrev pub receipt_of : ℕ → Report → Pdu
receipt_of sequence report = record { status = 0; sequence = sequence; body = DeliverSm (receipt_message report) }

pub record IsReceipt (chain : Chain) (sequence : ℕ) (pdu : Pdu) : Type 0 where
  pub report : Report
  pub reports : Reports chain report
  pub asked : AsksReceipt report.final report.taken
  pub told : IsTold chain.decrees
  pub pdu_is : pdu ≡ receipt_of sequence report
