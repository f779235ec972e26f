use Rattle.std.proofs.Common.{reverse}
use Rattle.fate_chain.proofs.Steps.{IsSoFar}
use Rattle.fate_chain.proofs.reading.decrees_of.Given as goal

abbrev pub invariant-loop-left : goal.invariant-loop-left
invariant-loop-left l = IsSoFar l.head.format l.head.count l.head.decrees.now l.left (reverse l.decrees.items) l.rest

abbrev pub decreases-loop-left : goal.decreases-loop-left
decreases-loop-left l = l.left
