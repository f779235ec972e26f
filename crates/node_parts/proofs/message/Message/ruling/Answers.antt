use Rattle.std.proofs.Common.{◌≡◌, ◌∙◌, ℕ, Option, Some, sym, ap, subst}
use Rattle.std.specs.Prelude.{IfOk, IfSome, option_map}
use Rattle.mc_model.specs.message.Chain.{Chain}
use Rattle.mc_model.specs.synod.Packet.{TopVote}
use Rattle.node_model.specs.Acceptor.{told_of}
use Rattle.node_model.specs.Rules.{shown_to}
use Rattle.waiting_requests.specs.Queues.{timely}
use Rattle.waiting_requests.specs.Waiting.{held_in}
use Rattle.synod_acceptor.specs.Records.{record_at}
use Rattle.mc_model.specs.node.Setup.{Setup}
use Rattle.node_model.specs.Kept.{Kept}
use Rattle.node_model.specs.Rules.{known_rule}
use Rattle.node_model.specs.Starts.{follow}
use Rattle.node_parts.specs.Reaching.{reach_of}
use Rattle.node_parts.specs.Turning.{IsAtRest, ruled_as, ruled_by}
use Rattle.node_parts.proofs.Ticks.{behind_is, shown_named, told_of_named}
use Rattle.node_parts.proofs.message.Message.ruling.Goals as goal

pub returns-in-Some-follow-clause-id : goal.returns-in-Some-follow-clause-id
returns-in-Some-follow-clause-id c =
    let own = record_at c.args.self.now.acceptor in
    let held = timely c.args.at.now.clock (held_in c.args.queue.now) in
    let named = shown_named c.args.id held (told_of own c.args.id) c.requires (told_of_named own c.args.id) in
    let told = subst (λ (top : Option TopVote). IfSome top (λ it. it.id ≡ c.args.id))
    (sym (c.shown.ensures ∙ ap (λ (top : Option TopVote). shown_to c.args.id held top) c.tell.ensures)) named in
    ap (λ (chain : Chain). chain.id) c.in_ok-chain-2.ensures ∙ c.in-Some-follow.ensures.id c.args.id told

pub returns-in-Some-known-clause-rule : goal.returns-in-Some-known-clause-rule
returns-in-Some-known-clause-rule c =
    let m = c.args.self.now in
    let at = c.args.at.now in
    let id = c.args.id in
    let held = timely at.clock (held_in c.args.queue.now) in
    let reach = reach_of c.args.reach.now in
    let chain = c.in-Some-known.chain.now in
    let ruled = subst (λ (n : ℕ). IfOk c.ruling_behind.result (λ ruling. (setup : Setup) (k : Kept) → IsAtRest setup k held n m at →
    option_map ruled_as ruling ≡ option_map ruled_by (known_rule setup k reach n (Some chain.decrees)))) c.in-Some-known.ensures.id c.ruling_behind.ensures.rule in
    behind_is c.ruling_behind.result held reach id m at chain.decrees (sym c.in-Some-known.ensures.known)
    (λ setup k rest. c.in_default.ensures.start setup k rest.numbered)
    (c.in_default-follow.ensures.start
    ∙ (λ i. follow (c.known-known.ensures.known i) ((c.shown.ensures ∙ ap (λ (top : Option TopVote). shown_to id held top) c.tell.ensures) i)))
    ruled
