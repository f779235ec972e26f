-- An attempt, as the gate to the ESMEs has it (SMPP 3.4, 4.6.1 and 4.6.2).
use Rattle.std.specs.Prelude.{◌≡◌, ℕ, List, Option, Some, None, unwrap_or}
use Rattle.mc_model.specs.message.Decree.{Decree}
use Rattle.mc_model.specs.node.Outcome.{Outcome, Unanswered, no_answer_error}
use Rattle.pdu_bodies.specs.declared.pdu.Pdu.{Pdu}
use Rattle.pdu_codec.specs.Pdu.{octets_of}
use Rattle.delivery.specs.Deliveries.{IsDelivery}
use Rattle.delivery.specs.Outcomes.{told_in}

-- the octets of the deliver_sm of a chain, with a sequence_number
pub record AreOctetsOf (decrees : List Decree) (sequence : ℕ) (octets : List ℕ) : Type 0 where
  pub pdu : Pdu
  pub delivery : IsDelivery decrees sequence pdu
  pub octets_are : octets ≡ octets_of pdu

-- what an answer tells of the attempt, if there is one
abbrev pub told_by : ℕ → Option Pdu → Option Outcome
told_by sequence None = None
told_by sequence (Some pdu) = told_in sequence pdu

-- or else nobody answered (own)
abbrev pub outcome_by : ℕ → Option Pdu → Outcome
outcome_by sequence answer = unwrap_or (told_by sequence answer) (Unanswered no_answer_error)
