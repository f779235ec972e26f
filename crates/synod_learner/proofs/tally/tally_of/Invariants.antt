use Rattle.std.proofs.Common.{take}
use Rattle.synod_acceptor.specs.Votes.{slot_in, vote_of}
use Rattle.synod_learner.specs.Counts.{IsUncounted, counts_of}
use Rattle.synod_learner.proofs.tally.tally_of.Given as goal

abbrev pub invariant-loop-place : goal.invariant-loop-place
invariant-loop-place l = IsUncounted (counts_of (take l.place l.tallies)) (slot_in l.vote) (vote_of l.vote)
