use Rattle.std.proofs.Common.{◌≡◌, ◌++◌, codes, take}
use Rattle.std.specs.List.{flat_map}
use Rattle.status_page.specs.Texts as spec
use Rattle.status_page.proofs.json.put_others.Given as goal

abbrev pub invariant-loop-node : goal.invariant-loop-node
invariant-loop-node l = l.out.items ≡ l.fn.out.items ++ flat_map (λ node. codes "," ++ spec.node_object node) (take l.node-index l.nodes)
