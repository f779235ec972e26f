use Rattle.std.proofs.Common.{◌≡◌, ◌⊎◌, ℕ, drop}
use Rattle.mc_model.specs.synod.Lists.{In}
use Rattle.node_threads.proofs.carrying.joined.Given as goal

abbrev pub invariant-loop-number : goal.invariant-loop-number
invariant-loop-number g l =
    (l.joined.group.was ≡ l.fn.member.post.node.kept)
    × ((number : ℕ) → In number l.numbers → (In number l.joined.numbers.items ⊎ In number l.joined.apart.items) ⊎ In number (drop l.number-index l.numbers))
