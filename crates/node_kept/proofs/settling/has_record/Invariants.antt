use Rattle.std.proofs.Common.{◌≡◌, drop}
use Rattle.synod_acceptor.specs.Records.{entries_of, record_at}
use Rattle.synod_acceptor.specs.Votes.{slot_recorded}
use Rattle.node_kept.proofs.settling.has_record.Given as goal

abbrev pub invariant-loop-record : goal.invariant-loop-record
invariant-loop-record l =
    record_at (entries_of (drop l.record-index l.fn.records)) (slot_recorded l.fn.wanted) ≡ record_at (entries_of l.fn.records) (slot_recorded l.fn.wanted)
