-- The deliver_sm of a chain.
use Rattle.std.proofs.Common.{◌≡◌, ℕ, List, Option, Some, ap, sym, ◌∙◌}
use Rattle.mc_model.specs.message.Chain.{taken_in}
use Rattle.mc_model.specs.message.Decree.{Decree}
use Rattle.mc_model.specs.message.Submission.{Submission}
use Rattle.pdu_bodies.specs.declared.pdu.Pdu.{Pdu}
use Rattle.delivery.specs.Deliveries.{IsDelivery, delivery_of}

-- it is that of what was taken
pub of_taken : (decrees : List Decree) (sequence : ℕ) (pdu : Pdu) (taken : Submission) → IsDelivery decrees sequence pdu → taken_in decrees ≡ Some taken
    → pdu ≡ delivery_of sequence taken
of_taken decrees sequence pdu taken is found = is.pdu_is ∙ ap (delivery_of sequence) (same is.taken taken (sym is.message ∙ found))
  where
    same : (a b : Submission) → ◌≡◌ {A = Option Submission} (Some a) (Some b) → a ≡ b
    same a b alike = cc
