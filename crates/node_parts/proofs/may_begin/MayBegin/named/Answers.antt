use Rattle.node_parts.proofs.Naming.{no_rest}
use Rattle.node_parts.proofs.may_begin.MayBegin.named.Goals as goal

pub returns-in-All : goal.returns-in-All
returns-in-All c = rw c.in-All.is (no_rest c.args.from)
