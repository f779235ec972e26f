use Rattle.std.proofs.Common.{◌-◌, ◌≤◌, length, take}
use Rattle.octet_io.specs.Writes.{Sends, most_writes}
use Rattle.octet_io.proofs.counted_writer.CountedWriter.write_all.Given as goal

abbrev pub invariant-writes : goal.invariant-writes
invariant-writes g l = Sends g.W.Write.contents l.initial.self l.self (take l.sent l.octets) × (l.sent ≤ length l.octets)

abbrev pub decreases-writes : goal.decreases-writes
decreases-writes g l = most_writes - l.self.writes
