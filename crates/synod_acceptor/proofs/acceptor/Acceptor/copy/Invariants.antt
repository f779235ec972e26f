use Rattle.std.proofs.Common.{◌≡◌, take}
use Rattle.synod_acceptor.proofs.acceptor.Acceptor.copy.Given as goal

abbrev pub invariant-loop-record : goal.invariant-loop-record
invariant-loop-record l = l.records.items ≡ take l.record-index l.record-items
