use Rattle.std.proofs.Common.{◌≡◌, take}
use Rattle.waiting_messages.specs.Presences.{absent_in}
use Rattle.waiting_messages.proofs.presence.Presence.absent.Given as goal

abbrev pub invariant-loop-seen : goal.invariant-loop-seen
invariant-loop-seen l = l.absent.items ≡ absent_in l.up.items (take l.seen-index l.seen-items)
