use Rattle.config.proofs.Built.{IsBegun}
use Rattle.config.proofs.build.nodes_of.Given as goal

abbrev pub invariant-loop-place : goal.invariant-loop-place
invariant-loop-place l = IsBegun l.rows l.place l.nodes.items
