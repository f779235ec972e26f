use Rattle.std.proofs.Common.{◌≡◌, take, None}
use Rattle.synod_learner.specs.Counts.{known_in}
use Rattle.synod_learner.proofs.learner.chain_place.Given as goal

abbrev pub invariant-loop-place : goal.invariant-loop-place
invariant-loop-place l = known_in (take l.place l.chains) l.id ≡ None
