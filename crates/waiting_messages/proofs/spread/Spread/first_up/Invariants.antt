use Rattle.std.proofs.Common.{◌≡◌, ℕ, ◌<◌, false, length}
use Rattle.waiting_messages.specs.Spreads.{behind, is_up_at}
use Rattle.waiting_messages.proofs.spread.Spread.first_up.Given as goal

abbrev pub invariant-loop-steps : goal.invariant-loop-steps
invariant-loop-steps l = (fewer : ℕ) → fewer < l.steps → is_up_at l.self (behind (length l.self) l.home fewer) l.account ≡ false
