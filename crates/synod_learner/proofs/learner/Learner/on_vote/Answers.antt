use Rattle.std.proofs.Common.{◌≡◌, ◌↔◌, ℕ, List, true, sym, ◌∙◌}
use Rattle.std.specs.Prelude.{IsTrue}
use Rattle.mc_types.specs.Nodes.{has}
use Rattle.synod_acceptor.specs.Votes.{slot_in, vote_of}
use Rattle.synod_learner.specs.Counts.{AreOfOthers, AreSingle, Count, IsCountPlace, IsCounted, IsVotersAt, counts_of, with_count}
use Rattle.synod_learner.specs.Hearing.{MakesKnown}
use Rattle.synod_learner.proofs.Counts.{IsAdded, count, counted_more, joined, new_voters_are, uncounted, voters_are}
use Rattle.synod_learner.proofs.Hearing.{heard_again, heard_new, learned_of, on_err, others_grown}
use Rattle.synod_learner.proofs.Messages.{grows_again, grows_new, learned_more, message_again, message_is}
use Rattle.synod_learner.proofs.learner.Learner.on_vote.Goals as goal

-- it was counted already
counted_then : (c : goal.Then-has) → IsCounted (counts_of c.self.inside.tallies.items) c.args.from (slot_in c.args.vote.now) (vote_of c.args.vote.now)
counted_then c =
    let at : IsCountPlace (counts_of c.self.inside.tallies.items) (slot_in c.args.vote.now)
    (vote_of c.args.vote.now) c.tally_of-place.result = rw (← c.deref.ensures.value) c.tally_of-place.ensures in
    let is : IsVotersAt (counts_of c.self.inside.tallies.items) c.tally_of-place.result c.voters_at-voters.result =
    rw (← c.deref-2.ensures.value) c.voters_at-voters.ensures in
    (voters_are (counts_of c.self.inside.tallies.items) (slot_in c.args.vote.now)
    (vote_of c.args.vote.now) c.tally_of-place.result c.voters_at-voters.result c.self.invariant.single at is c.args.from).0
    (sym c.has.ensures ∙ c.if-has.true)

pub returns-then-has-clause-heard : goal.returns-then-has-clause-heard
returns-then-has-clause-heard c =
    rw (← c.self.view_is) (λ received heard. heard_again
    (learned_of c.self.inside.nodes (counts_of c.self.inside.tallies.items) c.self.inside.known.items) received c.args.from
    c.args.vote.now heard (counted_then c))

pub returns-then-has-clause-grows : goal.returns-then-has-clause-grows
returns-then-has-clause-grows c =
    rw (← c.self.view_is) (grows_again c.self.inside.nodes
    (counts_of c.self.inside.tallies.items) c.self.inside.known.items c.args.from c.args.vote.now c.self.invariant.single
    c.self.invariant.learned (counted_then c))

pub returns-then-has-clause-message : goal.returns-then-has-clause-message
returns-then-has-clause-message c =
    rw (← c.self.view_is) (message_again c.self.inside.nodes
    (counts_of c.self.inside.tallies.items) c.self.inside.known.items c.args.from c.args.vote.now (counted_then c))

pub returns-in_err-take_in-clause-memory : goal.returns-in_err-take_in-clause-memory
returns-in_err-take_in-clause-memory c =
    let at : IsCountPlace (counts_of c.self.inside.tallies.items) (slot_in c.args.vote.now)
    (vote_of c.args.vote.now) c.tally_of-place.result = rw (← c.deref.ensures.value) c.tally_of-place.ensures in
    let is : IsVotersAt (counts_of c.self.inside.tallies.items) c.tally_of-place.result c.voters_at-voters.result =
    rw (← c.deref-2.ensures.value) c.voters_at-voters.ensures in
    let none = uncounted (counts_of c.self.inside.tallies.items) (slot_in c.args.vote.now)
    (vote_of c.args.vote.now) c.tally_of-place.result c.voters_at-voters.result c.args.from c.self.invariant.single at is
    (sym c.has.ensures ∙ c.if-has.false) in
    rw (← c.self.view_is) (on_err c.from_residual.result
    (IsCounted (counts_of c.self.inside.tallies.items) c.args.from (slot_in c.args.vote.now) (vote_of c.args.vote.now) → ⊥) none)

-- what stands at the end
place_is : (c : goal.In_ok-take_in) →
    IsCountPlace (counts_of c.self.inside.tallies.items) (slot_in c.args.vote.now) (vote_of c.args.vote.now) c.tally_of-place.result
place_is c = rw (← c.deref.ensures.value) c.tally_of-place.ensures

voters_is : (c : goal.In_ok-take_in) → IsVotersAt (counts_of c.self.inside.tallies.items) c.tally_of-place.result c.voters_at-voters.result
voters_is c = rw (← c.deref-2.ensures.value) c.voters_at-voters.ensures

decides : (c : goal.In_ok-take_in) → IsTrue c.makes_known-grows.result ↔ MakesKnown c.self.inside.nodes c.self.inside.known.items c.add.new.self c.args.vote.now
decides c =
    let given : AreOfOthers c.self.inside.known.items →
    IsTrue c.makes_known-grows.result ↔ MakesKnown c.self.inside.nodes c.self.inside.known.items c.add.new.self c.args.vote.now =
    rw (← c.deref-3.ensures.value) c.makes_known-grows.ensures in
    given c.self.invariant.others

abbrev new_counts : (c : goal.In_ok-take_in) → List Count
new_counts c =
    with_count (counts_of c.self.inside.tallies.items) c.tally_of-place.result (count (slot_in c.args.vote.now) (vote_of c.args.vote.now) c.add.new.self)

more : (c : goal.In_ok-take_in) →
    IsAdded (counts_of c.self.inside.tallies.items) (new_counts c) c.args.from (slot_in c.args.vote.now) (vote_of c.args.vote.now) × AreSingle (new_counts c)
more c =
    counted_more (counts_of c.self.inside.tallies.items) (slot_in c.args.vote.now)
    (vote_of c.args.vote.now) c.tally_of-place.result c.voters_at-voters.result c.add.new.self c.args.from c.self.invariant.single
    (place_is c) (voters_is c) (joined c.voters_at-voters.result c.add.new.self c.args.from c.add.ensures)

are : (c : goal.In_ok-take_in) (node : ℕ) → (has c.add.new.self node ≡ true) ↔ IsCounted (new_counts c) node (slot_in c.args.vote.now) (vote_of c.args.vote.now)
are c =
    new_voters_are (counts_of c.self.inside.tallies.items) (new_counts c) (slot_in c.args.vote.now)
    (vote_of c.args.vote.now) c.tally_of-place.result c.voters_at-voters.result c.add.new.self c.args.from c.self.invariant.single
    (place_is c) (voters_is c) (joined c.voters_at-voters.result c.add.new.self c.args.from c.add.ensures) (more c).0

pub invariant_of-self-2 : goal.invariant_of-self-2
invariant_of-self-2 c =
    rw c.in_ok-take_in.ensures.counts (record {
      single = (more c).1;
      others = others_grown c.makes_known-grows.result c.self.inside.known.items c.take_in.new.known.items c.args.vote.now.chain
          c.self.invariant.others (c.in_ok-take_in.ensures.known c.self.invariant.others);
      learned = learned_more c.makes_known-grows.result c.self.inside.nodes
          (counts_of c.self.inside.tallies.items) c.self.inside.known.items c.take_in.new.known.items c.args.vote.now
          c.tally_of-place.result c.add.new.self c.self.invariant.learned (decides c) (c.in_ok-take_in.ensures.known c.self.invariant.others);
    })

pub returns-clause-heard : goal.returns-clause-heard
returns-clause-heard c =
    rw (← c.self.view_is, c.in_ok-take_in.ensures.counts) (λ received heard.
    heard_new c.makes_known-grows.result c.self.inside.nodes (counts_of c.self.inside.tallies.items)
    (new_counts c) c.self.inside.known.items c.take_in.new.known.items received c.args.from c.args.vote.now c.add.new.self (more c).0
    (are c) (decides c) (c.in_ok-take_in.ensures.known c.self.invariant.others) heard)

pub returns-clause-grows : goal.returns-clause-grows
returns-clause-grows c =
    rw (← c.self.view_is) (grows_new c.self.inside.nodes (counts_of c.self.inside.tallies.items)
    (new_counts c) c.self.inside.known.items c.args.from c.args.vote.now c.add.new.self c.makes_known-grows.result (more c).0 (are c) (decides c))

pub returns-clause-message : goal.returns-clause-message
returns-clause-message c =
    rw (← c.self.view_is, c.in_ok-take_in.ensures.counts)
    (message_is c.makes_known-grows.result c.self.inside.nodes (counts_of c.self.inside.tallies.items)
    (new_counts c) c.self.inside.known.items c.take_in.new.known.items c.args.from c.args.vote.now (more c).0
    (c.in_ok-take_in.ensures.known c.self.invariant.others))
