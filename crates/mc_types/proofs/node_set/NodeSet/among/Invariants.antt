use Rattle.std.proofs.Common.{◌≡◌, ◌≤◌}
use Rattle.mc_model.specs.synod.Majority.{count}
use Rattle.mc_types.specs.Nodes.{has}
use Rattle.mc_types.proofs.node_set.NodeSet.among.Given as goal

abbrev pub invariant-loop-node : goal.invariant-loop-node
invariant-loop-node l = record {
  count : l.count ≡ count (has l.self) l.node;
  most : l.count ≤ l.node;
}
