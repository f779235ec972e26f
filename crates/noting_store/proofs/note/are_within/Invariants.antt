use Rattle.std.proofs.Common.{◌≡◌, ℕ, ◌≤◌, ◌<◌, ◌⊎◌, true}
use Rattle.mc_types.specs.Nodes.{has}
use Rattle.noting_store.proofs.note.are_within.Given as goal

-- none of those that were looked at is in the set
abbrev pub invariant-loop-number : goal.invariant-loop-number
invariant-loop-number l = (voter : ℕ) → has l.voters voter ≡ true → (voter ≤ l.nodes) ⊎ (l.number < voter)
