use Rattle.std.proofs.Common.{length, refl}
use Rattle.std.proofs.lemmas.Option.{slice_get_read, slice_get_within}
use Rattle.synod_learner.specs.Counts.{IsChainAt, known_in}
use Rattle.synod_learner.proofs.Chains.{known_here}
use Rattle.synod_learner.proofs.Hearing.{shorter_by}
use Rattle.synod_learner.proofs.learner.knows_less.Goals as goal

pub returns-in-Some : goal.returns-in-Some
returns-in-Some c = λ others.
    let found : IsChainAt c.args.known.now c.args.chain.now.id c.in-Some.place = rw (← c.id.ensures) c.in-Some.ensures in
    let within = slice_get_within c.args.known.now c.in-Some.place found.chain found.stands in
    let stands = slice_get_read c.args.known.now (length c.args.known.now) c.in-Some.place c.index-known-place.result refl within c.index-known-place.is in
    let held = known_here c.args.known.now c.in-Some.place c.index-known-place.result c.args.chain.now.id others found stands in
    shorter_by (known_in c.args.known.now c.args.chain.now.id) c.index-known-place.result.decrees c.args.chain.now.decrees c.place.result
    c.place-in-Some.result held.0 c.place.ensures.place c.place-in-Some.ensures.place
