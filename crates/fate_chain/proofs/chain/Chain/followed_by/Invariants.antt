use Rattle.std.proofs.Common.{◌≡◌, take}
use Rattle.fate_chain.proofs.chain.Chain.followed_by.Given as goal

abbrev pub invariant-loop-one : goal.invariant-loop-one
invariant-loop-one l = l.decrees.items ≡ take l.one-index l.earlier
