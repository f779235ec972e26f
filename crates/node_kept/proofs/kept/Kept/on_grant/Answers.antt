use Rattle.std.proofs.Common.{◌∙◌, Some, sym, ap}
use Rattle.mc_model.specs.message.Chain.{Chain}
use Rattle.node_kept.proofs.Grants.{granted_step}
use Rattle.node_kept.proofs.kept.Kept.on_grant.Goals as goal

pub returns-clause-ok : goal.returns-clause-ok
returns-clause-ok c =
    let same = c.in_ok-chain.ensures in
    let known = c.in_ok-attempt.ensures.known ∙ sym (ap (λ (chain : Chain). Some chain.decrees) same) in
    granted_step c.args.self.now c.args.id c.place.result c.in_ok-chain.chain c.in_ok-message.message c.grant.new.self c.granting.result
    c.in_ok-next.next c.requires
    c.in_ok-attempt.ensures.given known (ap (λ (chain : Chain). chain.id) same
    ∙ c.in_ok-attempt.ensures.id) c.place.ensures.place c.in_ok-message.ensures c.grant.ensures
    c.granting.ensures.ticket c.granting.ensures.refused c.granting.ensures.packets c.granting.ensures.replies c.granting.ensures.receipts
    c.granting.ensures.granted c.in_ok-next.ensures
