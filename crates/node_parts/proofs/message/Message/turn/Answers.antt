use Rattle.std.proofs.Common.{◌≡◌, ◌∙◌, Some, None, Option, ℕ, refl, sym, ap}
use Rattle.node_parts.specs.Messages.{rested}
use Rattle.waiting_requests.specs.Queues.{timely}
use Rattle.waiting_requests.specs.Waiting.{held_in}
use Rattle.tick_rules.specs.Standpoints.{start_of}
use Rattle.node_parts.specs.Reaching.{reach_of}
use Rattle.node_parts.specs.Turning.{turned}
use Rattle.node_parts.proofs.Turns.{by_given, given_same, ruling_is, turned_begun, turned_given, turned_not, turned_same}
use Rattle.node_parts.proofs.message.Message.turn.Goals as goal

pub returns-in_default-clause-turned : goal.returns-in_default-clause-turned
returns-in_default-clause-turned c setup k rest of =
    ruling_is setup k (reach_of c.args.reach.now) c.args.id None (turned k c.args.id None) (rw c.in_default.is at (c.in_ok-ruling.ensures.rule setup k rest)) refl

pub returns-in-Some-given_up-clause-same : goal.returns-in-Some-given_up-clause-same
returns-in-Some-given_up-clause-same c =
    let rests : c.drop_round.new.self ≡ rested c.args.self.now = c.drop_round.ensures ∙ ap rested c.in_ok-message.ensures in
    let at = rw c.in-Some.is at c.in_ok-ruling.ensures.id in
    given_same c.args.id c.in-Some-given_up.place c.args.self.now c.drop_round.new.self c.close.new.self c.start-packet.new.self
    c.in-Some.ruling.chain c.start-packet.result rests c.close.ensures at c.start-packet.ensures

pub returns-in-Some-given_up-clause-turned : goal.returns-in-Some-given_up-clause-turned
returns-in-Some-given_up-clause-turned c setup k rest of =
    let rests : c.drop_round.new.self ≡ rested c.args.self.now = c.drop_round.ensures ∙ ap rested c.in_ok-message.ensures in
    let at = rw c.in-Some.is at c.in_ok-ruling.ensures.id in
    let given : c.in-Some.ruling.given_up ≡ Some c.in-Some-given_up.place = c.in-Some-given_up.is in
    ruling_is setup k (reach_of c.args.reach.now) c.args.id (Some c.in-Some.ruling) _ (rw c.in-Some.is at (c.in_ok-ruling.ensures.rule setup k rest))
    (turned_given setup k c.args.id c.args.self.now c.args.at.now
    (timely c.args.at.now.clock (held_in c.args.queue.now)) rest of c.in-Some-given_up.place c.drop_round.new.self c.close.new.self
    c.start-packet.new.self c.in-Some.ruling.chain c.start-packet.result rests c.close.ensures at c.start-packet.ensures
    ∙ ap (λ (given_up : Option ℕ). by_given setup k c.args.id given_up (start_of c.in-Some.ruling.chain)) (sym given))

pub returns-in-Some-start-clause-same : goal.returns-in-Some-start-clause-same
returns-in-Some-start-clause-same c =
    let rests : c.drop_round.new.self ≡ rested c.args.self.now = c.drop_round.ensures ∙ ap rested c.in_ok-message.ensures in
    let at = rw c.in-Some.is at c.in_ok-ruling.ensures.id in
    turned_same c.args.id c.args.self.now c.drop_round.new.self c.start.new.self c.in-Some.ruling.chain c.start.result rests at c.start.ensures

pub returns-in-Some-start-clause-turned : goal.returns-in-Some-start-clause-turned
returns-in-Some-start-clause-turned c setup k rest of =
    let rests : c.drop_round.new.self ≡ rested c.args.self.now = c.drop_round.ensures ∙ ap rested c.in_ok-message.ensures in
    let at = rw c.in-Some.is at c.in_ok-ruling.ensures.id in
    let given : c.in-Some.ruling.given_up ≡ None = c.in-None.is in
    ruling_is setup k (reach_of c.args.reach.now) c.args.id (Some c.in-Some.ruling) _ (rw c.in-Some.is at (c.in_ok-ruling.ensures.rule setup k rest))
    (turned_begun setup k c.args.id c.args.self.now c.args.at.now
    (timely c.args.at.now.clock (held_in c.args.queue.now)) rest of c.drop_round.new.self c.start.new.self c.in-Some.ruling.chain rests
    at c.in-Some-start.packet (rw c.in-Some-start.is at c.start.ensures)
    ∙ ap (λ (given_up : Option ℕ). by_given setup k c.args.id given_up (start_of c.in-Some.ruling.chain)) (sym given))

pub returns-in-None-start-clause-turned : goal.returns-in-None-start-clause-turned
returns-in-None-start-clause-turned c setup k rest of =
    let rests : c.drop_round.new.self ≡ rested c.args.self.now = c.drop_round.ensures ∙ ap rested c.in_ok-message.ensures in
    let at = rw c.in-Some.is at c.in_ok-ruling.ensures.id in
    let given : c.in-Some.ruling.given_up ≡ None = c.in-None.is in
    ruling_is setup k (reach_of c.args.reach.now) c.args.id (Some c.in-Some.ruling) _ (rw c.in-Some.is at (c.in_ok-ruling.ensures.rule setup k rest))
    (turned_not setup k c.args.id c.args.self.now c.args.at.now
    (timely c.args.at.now.clock (held_in c.args.queue.now)) rest of c.drop_round.new.self c.start.new.self c.in-Some.ruling.chain rests
    at (rw c.in-None-start.is at c.start.ensures)
    ∙ ap (λ (given_up : Option ℕ). by_given setup k c.args.id given_up (start_of c.in-Some.ruling.chain)) (sym given))
