use Rattle.std.proofs.Common.{◌↔◌, Some, inl, inr, refl, sym, ◌∙◌}
use Rattle.std.specs.Prelude.{IsTrue}
use Rattle.synod_acceptor.specs.Votes.{slot_in, vote_of}
use Rattle.synod_learner.specs.Counts.{AreOfOthers, IsCountPlace, IsUncounted, IsVotersAt, counts_of}
use Rattle.synod_learner.specs.Hearing.{MakesKnown}
use Rattle.synod_learner.proofs.Recounts.{added_so, grows_so}
use Rattle.synod_learner.proofs.learner.Learner.recount.Goals as goal

pub returns-in_default : goal.returns-in_default
returns-in_default c =
    let none : IsUncounted (counts_of c.self.inside.tallies.items) (slot_in c.args.vote.now) (vote_of c.args.vote.now) =
    rw (← c.deref.ensures.value) c.in_default.ensures in
    rw (← c.self.view_is) (inl none)

pub returns-then-makes_known : goal.returns-then-makes_known
returns-then-makes_known c =
    let counts = counts_of c.self.inside.tallies.items in
    let known = c.self.inside.known.items in
    let place = c.in-Some.place in
    let at : IsCountPlace counts (slot_in c.args.vote.now) (vote_of c.args.vote.now) (Some place) = rw (← c.deref.ensures.value) c.in-Some.ensures in
    let were : IsVotersAt counts (Some place) c.voters_at-voters.result = rw (← c.deref-2.ensures.value) c.voters_at-voters.ensures in
    let given : AreOfOthers known → IsTrue c.makes_known.result ↔ MakesKnown c.self.inside.nodes known c.add.new.self c.args.vote.now =
    rw (← c.deref-3.ensures.value) c.makes_known.ensures in
    rw (← c.self.view_is) (inr (sym (grows_so c.self.inside.nodes counts known (Some place) c.voters_at-voters.result c.add.new.self
    c.args.from c.args.vote.now c.makes_known.result c.self.invariant at were c.add.ensures (given c.self.invariant.others)) ∙ c.if-makes_known.true))

pub returns : goal.returns
returns c =
    let counts = counts_of c.self.inside.tallies.items in
    let known = c.self.inside.known.items in
    let place = c.in-Some.place in
    let at : IsCountPlace counts (slot_in c.args.vote.now) (vote_of c.args.vote.now) (Some place) = rw (← c.deref.ensures.value) c.in-Some.ensures in
    let were : IsVotersAt counts (Some place) c.voters_at-voters.result = rw (← c.deref-2.ensures.value) c.voters_at-voters.ensures in
    let given : AreOfOthers known → IsTrue c.makes_known.result ↔ MakesKnown c.self.inside.nodes known c.add.new.self c.args.vote.now =
    rw (← c.deref-3.ensures.value) c.makes_known.ensures in
    rw (← c.self.view_is) (added_so c.self.inside.nodes counts known (Some place) c.voters_at-voters.result c.add.new.self
    c.args.from c.args.vote.now c.makes_known.result c.self.invariant at were c.add.ensures (given c.self.invariant.others)
    c.if-makes_known.false (record { place = place; voters = c.add.new.self }) refl refl)
