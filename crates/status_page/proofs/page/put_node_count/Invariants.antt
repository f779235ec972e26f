use Rattle.std.proofs.Common.{◌≡◌, ◌++◌, take}
use Rattle.std.specs.List.{flat_map}
use Rattle.status_page.specs.Counts.{node_help, node_value}
use Rattle.status_page.specs.Texts as spec
use Rattle.status_page.proofs.page.put_node_count.Given as goal

abbrev pub invariant-loop-node : goal.invariant-loop-node
invariant-loop-node l = l.out.items ≡ l.fn.out.items ++ spec.row_begin (node_help l.count) ++ flat_map (λ node. spec.cell (node_value node l.count)) (take l.node-index l.nodes)
