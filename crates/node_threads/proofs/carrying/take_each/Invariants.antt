use Rattle.std.proofs.Common.{◌≡◌, ◌⊎◌, ℕ, drop}
use Rattle.mc_model.specs.synod.Lists.{In}
use Rattle.node_threads.specs.Carrying.{Carries, HasCome}
use Rattle.node_threads.proofs.carrying.take_each.Given as goal

abbrev pub invariant-loop-number : goal.invariant-loop-number
invariant-loop-number g l =
    Carries l.fn.door.node l.fn.seat.slips l.seat.slips
    × (l.member.post.node.kept.setup ≡ l.fn.member.post.node.kept.setup)
    × ((number : ℕ) → In number l.numbers → HasCome l.fn.door.node number l.fn.seat.slips l.seat.slips ⊎ In number (drop l.number-index l.numbers))
