use Rattle.std.proofs.Common.{◌≡◌, ◌++◌, length}
use Rattle.mc_model.specs.synod.Packet.{Slot}
use Rattle.synod_acceptor.specs.Records.{entries_of, record_at}
use Rattle.synod_acceptor.proofs.acceptor.Acceptor.make.Given as goal

-- those that are left count before those that were applied
abbrev pub invariant-loop-after : goal.invariant-loop-after
invariant-loop-after l = (slot : Slot) → record_at (entries_of l.records.items ++ l.acceptor) slot ≡ record_at (entries_of l.fn.records.items) slot

abbrev pub decreases-loop-after : goal.decreases-loop-after
decreases-loop-after l = length l.records.items
