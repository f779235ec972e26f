use Rattle.std.proofs.Common.{◌≡◌, ◌++◌, take}
use Rattle.std.specs.List.{flat_map}
use Rattle.status_page.specs.Counts.{count_name, count_value}
use Rattle.status_page.specs.Texts as spec
use Rattle.status_page.proofs.json.put_counts.Given as goal

abbrev pub invariant-loop-count : goal.invariant-loop-count
invariant-loop-count l = l.out.items ≡ l.fn.out.items ++ flat_map (λ count. spec.member (count_name count) (count_value l.status count)) (take l.count-index l.counts)
