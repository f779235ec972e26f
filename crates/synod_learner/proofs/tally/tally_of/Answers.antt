use Rattle.std.proofs.Common.{◌≡◌, take, rules, arith}
use Rattle.std.proofs.lemmas.List.{take_all}
use Rattle.synod_learner.proofs.Counts.{uncounted_next, count_here}
use Rattle.synod_learner.proofs.tally.tally_of.Goals as goal

pub returns-then-is : goal.returns-then-is
returns-then-is c =
    let same : c.index-tallies-place.result.vote ≡ c.args.vote.now = search rules in
    count_here c.args.tallies.now c.loop-place.place c.index-tallies-place.result c.args.vote.now (omega arith) c.index-tallies-place.is same

pub loop-place-preserved : goal.loop-place-preserved
loop-place-preserved c =
    let differs : c.index-tallies-place.result.vote ≡ c.args.vote.now → ⊥ = search rules in
    uncounted_next c.args.tallies.now c.loop-place.place c.index-tallies-place.result c.args.vote.now
    (omega arith) c.index-tallies-place.is c.loop-place.invariant differs

pub returns : goal.returns
returns c =
    let all : take c.loop-place.place c.args.tallies.now ≡ c.args.tallies.now = take_all c.loop-place.place c.args.tallies.now (omega arith) in
    rw all at c.loop-place.invariant
