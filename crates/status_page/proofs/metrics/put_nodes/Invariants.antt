use Rattle.std.proofs.Common.{◌≡◌, ◌++◌, take}
use Rattle.std.specs.List.{flat_map}
use Rattle.status_page.specs.Counts.{node_help, node_rises}
use Rattle.status_page.specs.Texts as spec
use Rattle.status_page.proofs.metrics.put_nodes.Given as goal

abbrev pub invariant-loop-node : goal.invariant-loop-node
invariant-loop-node l = l.out.items ≡ l.fn.out.items ++ spec.metric_head (spec.node_metric l.count) (node_help l.count) (node_rises l.count) ++ flat_map (spec.node_line l.count) (take l.node-index l.nodes)
