use Rattle.std.proofs.Common.{length, refl}
use Rattle.std.proofs.lemmas.Option.{slice_get_read}
use Rattle.synod_acceptor.specs.Votes.{slot_in, vote_of}
use Rattle.synod_learner.specs.Counts.{IsCountAt, counts_of}
use Rattle.synod_learner.proofs.Counts.{place_within, tally_put}
use Rattle.synod_learner.proofs.learner.count.Goals as goal

pub returns-clause-ok : goal.returns-clause-ok
returns-clause-ok c =
    let at : IsCountAt (counts_of c.args.tallies.now.items) (slot_in c.args.vote.now) (vote_of c.args.vote.now) c.in-Some.place =
    rw c.in-Some.is at c.requires in
    let within = rw c.in-Some.is at (place_within c.args.tallies.now.items (slot_in c.args.vote.now) (vote_of c.args.vote.now) c.args.place c.requires) in
    rw c.in-Some.is (tally_put c.args.tallies.now.items c.in-Some.place c.index_mut.result.now c.args.vote.now c.args.voters
    (slice_get_read c.args.tallies.now.items (length c.args.tallies.now.items) c.in-Some.place c.index_mut.result.now refl within
    c.index_mut.ensures.value) at)
