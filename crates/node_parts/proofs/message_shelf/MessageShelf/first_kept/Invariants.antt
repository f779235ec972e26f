use Rattle.std.proofs.Common.{◌≡◌, drop}
use Rattle.std.specs.List.{find}
use Rattle.node_parts.specs.Living.{is_kept_in}
use Rattle.node_parts.proofs.message_shelf.MessageShelf.first_kept.Given as goal

abbrev pub invariant-loop-id : goal.invariant-loop-id
invariant-loop-id l = find (is_kept_in l.self.entries) l.ids ≡ find (is_kept_in l.self.entries) (drop l.id-index l.ids)
