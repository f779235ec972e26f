-- Of which final states a receipt is asked (SMPP 3.4, 5.2.17).
use Rattle.std.specs.Prelude.{◌≡◌, ◌⊎◌, ◌%◌}
use Rattle.mc_model.specs.message.Submission.{Submission}
use Rattle.mc_model.specs.message.Decree.{Delivered, Final}

-- a receipt was asked for on every final state, or on every one but DELIVERED
abbrev pub AsksReceipt : Final → Submission → Type 0
AsksReceipt final taken = (taken.registered_delivery % 4 ≡ 1) ⊎ ((taken.registered_delivery % 4 ≡ 2) × (final ≡ Delivered → ⊥))
