use Rattle.std.proofs.Common.{◌≡◌, ◌++◌, take}
use Rattle.std.specs.List.{flat_map}
use Rattle.status_page.specs.Texts as spec
use Rattle.status_page.proofs.metrics.put_node_counts.Given as goal

abbrev pub invariant-loop-count : goal.invariant-loop-count
invariant-loop-count l = l.out.items ≡ l.fn.out.items ++ flat_map (spec.node_lines l.nodes) (take l.count-index l.counts)
