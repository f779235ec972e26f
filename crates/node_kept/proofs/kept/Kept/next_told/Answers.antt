use Rattle.std.proofs.Common.{IfSome, Option, ap, sym, subst, ◌∙◌, ◌≡◌}
use Rattle.mc_model.specs.message.Chain.{Chain}
use Rattle.mc_model.specs.synod.Packet.{TopVote}
use Rattle.waiting_requests.specs.Waiting.{held_of}
use Rattle.node_model.specs.Requests.{id_of}
use Rattle.node_kept.proofs.Tells.{most_told}
use Rattle.node_kept.proofs.kept.Kept.next_told.Goals as goal

pub returns-in_ok-copy-in-Some-clause-id : goal.returns-in_ok-copy-in-Some-clause-id
returns-in_ok-copy-in-Some-clause-id c =
    let id = id_of (held_of c.args.held.now) in
    ap (λ (chain : Chain). chain.id) c.in_ok-copy-in-Some.ensures
    ∙ c.in-Some.ensures.id id
    (subst (λ (top : Option TopVote). IfSome top (λ it. it.id ≡ id)) (sym c.told_by_most.ensures)
    (most_told c.nodes.result (held_of c.args.held.now) c.requires.told))
