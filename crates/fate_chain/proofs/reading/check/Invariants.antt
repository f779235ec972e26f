use Rattle.fate_chain.proofs.Steps.{IsChecked}
use Rattle.fate_chain.proofs.reading.check.Given as goal

abbrev pub invariant-loop-left : goal.invariant-loop-left
invariant-loop-left l = IsChecked l.head.format l.head.id l.head.count l.head.decrees.now l.left l.rest l.progress

abbrev pub decreases-loop-left : goal.decreases-loop-left
decreases-loop-left l = l.left
