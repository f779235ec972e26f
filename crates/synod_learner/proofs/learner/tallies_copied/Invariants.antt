use Rattle.std.proofs.Common.{◌≡◌, take}
use Rattle.synod_learner.proofs.learner.tallies_copied.Given as goal

abbrev pub invariant-loop-tally : goal.invariant-loop-tally
invariant-loop-tally l = l.copies.items ≡ take l.tally-index l.tallies
