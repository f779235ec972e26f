use Rattle.std.proofs.Common.{take}
use Rattle.std.specs.Option.{option_copied}
use Rattle.synod_acceptor.specs.Votes.{told_vote}
use Rattle.synod_acceptor.specs.Records.{IsTopOf, entries_of}
use Rattle.synod_acceptor.proofs.acceptor.top_of.Given as goal

abbrev pub invariant-loop-record : goal.invariant-loop-record
invariant-loop-record l = IsTopOf (entries_of (take l.record-index l.records)) l.id (told_vote (option_copied l.top))
