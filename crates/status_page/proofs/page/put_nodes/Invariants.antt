use Rattle.std.proofs.Common.{◌≡◌, ◌++◌, codes, take}
use Rattle.std.specs.List.{flat_map}
use Rattle.status_page.specs.Texts as spec
use Rattle.status_page.proofs.page.put_nodes.Given as goal

abbrev pub invariant-loop-node : goal.invariant-loop-node
invariant-loop-node l = l.out.items ≡ l.fn.out.items ++ spec.row_begin (codes "Node") ++ flat_map (λ node. spec.cell node.number) (take l.node-index l.nodes)
