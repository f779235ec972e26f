use Rattle.std.proofs.Common.{◌≡◌, drop}
use Rattle.node_parts.specs.Living.{dropped}
use Rattle.node_parts.proofs.message_shelf.drop_rounds.Given as goal

abbrev pub invariant-loop-id : goal.invariant-loop-id
invariant-loop-id l =
    (dropped (drop l.id-index l.ids) l.shelf.entries ≡ dropped l.ids l.initial.shelf.entries) × (l.shelf.room ≡ l.initial.shelf.room)
