use Rattle.std.proofs.Common.{◌<◌, length}
use Rattle.synod_learner.proofs.Counts.{voters_here}
use Rattle.synod_learner.proofs.learner.voters_at.Goals as goal

pub returns-in-Some : goal.returns-in-Some
returns-in-Some c =
    let within : c.in-Some.place < length c.args.tallies.now = rw c.in-Some.is at c.requires in
    rw (c.in-Some.is, ← c.index-tallies-place.is) (voters_here c.args.tallies.now c.in-Some.place c.index-tallies-place.result within c.index-tallies-place.is)
