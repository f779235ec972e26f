use Rattle.std.proofs.Common.{◌≡◌, take, None}
use Rattle.synod_acceptor.specs.Records.{entries_of, held_at}
use Rattle.synod_acceptor.proofs.acceptor.place_of.Given as goal

abbrev pub invariant-loop-place : goal.invariant-loop-place
invariant-loop-place l = held_at (entries_of (take l.place l.records)) l.slot ≡ None
