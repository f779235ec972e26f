-- That a receipt was asked for is decided by the registered_delivery.
use Rattle.std.proofs.Common.{◌≡◌, refl, inl, inr}
use Rattle.std.specs.Prelude.{◌%◌, ◌==◌, ◌||◌}
use Rattle.std.specs.Bool.{Decides}
use Rattle.std.proofs.lemmas.Bool.Decides.{Decides-eqb, Decides-like, Decides-or}
use Rattle.mc_model.specs.message.Submission.{Submission}
use Rattle.mc_model.specs.message.Decree.{Deleted, Delivered, Expired, Final, Rejected, Undeliverable}
use Rattle.mc_model.specs.message.Receipts.{AsksReceipt}
use Rattle.node_model.specs.Answers.{is_asked}

other_asks : (final : Final) (taken : Submission) → (final ≡ Delivered → ⊥) →
    Decides ((taken.registered_delivery % 4 == 1) || (taken.registered_delivery % 4 == 2)) (AsksReceipt final taken)
other_asks final taken other = Decides-like ((taken.registered_delivery % 4 == 1) || (taken.registered_delivery % 4 == 2))
    (λ p. elim p [ inl always ↦ inl always | inr failure ↦ inr (failure, other) ])
    (λ asks. elim asks [ inl always ↦ inl always | inr failure ↦ inr failure.0 ])
    (Decides-or _ _ (Decides-eqb (taken.registered_delivery % 4) 1) (Decides-eqb (taken.registered_delivery % 4) 2))

pub asked_decides : (final : Final) (taken : Submission) → Decides (is_asked final taken) (AsksReceipt final taken)
asked_decides Delivered taken = (
  λ t. inl ((Decides-eqb (taken.registered_delivery % 4) 1).0 t),
  λ asks. elim asks [ inl always ↦ (Decides-eqb (taken.registered_delivery % 4) 1).1 always | inr failure ↦ absurd (failure.1 refl) ],
)
asked_decides Expired taken = other_asks Expired taken (λ same. absurd (cc))
asked_decides Deleted taken = other_asks Deleted taken (λ same. absurd (cc))
asked_decides Undeliverable taken = other_asks Undeliverable taken (λ same. absurd (cc))
asked_decides Rejected taken = other_asks Rejected taken (λ same. absurd (cc))
