use Rattle.std.proofs.Common.{◌≡◌, drop, Some}
use Rattle.node_parts.specs.Sleeping.{dozed, ids_of, reach_noted}
use Rattle.node_parts.specs.Waking.{all_looked_at}
use Rattle.node_parts.proofs.sleepers.doze_all.Given as goal

abbrev pub invariant-loop-id : goal.invariant-loop-id
invariant-loop-id l =
    (all_looked_at (dozed l.shelf.entries l.noted.me (reach_noted l.noted) (Some l.clock)) (drop l.id-index l.ids) l.live.items
    ≡ all_looked_at (dozed l.shelf.entries l.noted.me (reach_noted l.noted) (Some l.clock)) l.ids l.initial.live.items)
    × ((ids_of l.live.items ≡ ids_of l.initial.live.items) × (l.live.width ≡ l.initial.live.width))
