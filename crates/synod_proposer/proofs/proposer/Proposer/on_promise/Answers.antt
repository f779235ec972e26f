use Rattle.std.proofs.Common.{◌≡◌, ◌∙◌, None, Some, ap}
use Rattle.mc_model.specs.synod.Packet.{Propose, Slot}
use Rattle.node_model.specs.Message.{unseen}
use Rattle.synod_acceptor.specs.Votes.{report_of, slot_in, vote_of}
use Rattle.synod_proposer.specs.Proposing.{Offers}
use Rattle.synod_proposer.proofs.Rounds.{counted_is, offers_is}
use Rattle.synod_proposer.proofs.proposer.Proposer.on_promise.Goals as goal

pub returns-clause-counted : goal.returns-clause-counted
returns-clause-counted c = λ runs.
    rw (← c.self.view_is, c.in-Some.is) (λ i. record unseen {
      round = Some (counted_is c.in-Some.round c.count.new.self c.args.from (report_of c.args.report.now) c.in_ok-vote.ensures.counted i);
      seen = c.self.inside.seen;
    })

pub returns-in_default-2-clause-proposed : goal.returns-in_default-2-clause-proposed
returns-in_default-2-clause-proposed c = λ runs.
    let none : Offers c.self.inside.nodes c.in-Some.round c.count.new.self None = rw c.in_default-2.is at c.in_ok-vote.ensures.offers in
    rw (← c.self.view_is, c.in-Some.is) (offers_is c.self.inside.me.node c.self.inside.nodes c.in-Some.round c.count.new.self c.args.from
    (report_of c.args.report.now) None c.in_ok-vote.ensures.counted none)

pub returns-clause-proposed : goal.returns-clause-proposed
returns-clause-proposed c = λ runs.
    let some : Offers c.self.inside.nodes c.in-Some.round c.count.new.self (Some (vote_of c.in-Some-2.vote)) =
    rw c.in-Some-2.is at c.in_ok-vote.ensures.offers in
    let slot : slot_in c.in-Some-2.vote ≡ c.in-Some.round.slot = rw c.in-Some-2.is at c.in_ok-vote.ensures.slot in
    rw (← c.self.view_is, c.in-Some.is)
    (ap (λ (s : Slot). Some (Propose c.self.inside.me.node s (vote_of c.in-Some-2.vote))) slot
    ∙ offers_is c.self.inside.me.node c.self.inside.nodes c.in-Some.round c.count.new.self c.args.from (report_of c.args.report.now)
    (Some (vote_of c.in-Some-2.vote)) c.in_ok-vote.ensures.counted some)
