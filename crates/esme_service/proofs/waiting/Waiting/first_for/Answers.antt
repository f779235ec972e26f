use Rattle.std.proofs.Common.{◌≡◌, Some, None, List, find, sym, ap, ◌∙◌, subst}
use Rattle.std.specs.Prelude.{option_map}
use Rattle.std.specs.List.{position}
use Rattle.mc_model.specs.message.Chain.{Chain}
use Rattle.mc_model.specs.node.Outputs.{Receipt}
use Rattle.esme_service.specs.Reports.{is_for}
use Rattle.node_model.specs.Reported.{receipt_of}
use Rattle.esme_service.proofs.Queued.{found_there, nothing_found}
use Rattle.esme_service.proofs.waiting.Waiting.first_for.Goals as goal

pub returns-in_err-place : goal.returns-in_err-place
returns-in_err-place c =
    let test = is_for c.args.account.now in
    let nowhere = ap (position (λ (chain : Chain). test (receipt_of chain))) (sym c.deref.ensures.value) ∙ (sym c.place_for.ensures ∙ c.in_err-place.was) in
    c.from_residual.ensures
    ∙ subst (λ (w : List Receipt). None ≡ option_map (λ (r : Receipt). r.id) (find test w)) c.self.view_is
    (ap (option_map (λ (r : Receipt). r.id)) (sym (nothing_found receipt_of test c.self.inside.chains.items nowhere)))

pub returns : goal.returns
returns c =
    let test = is_for c.args.account.now in
    let stands = ap (position (λ (chain : Chain). test (receipt_of chain))) (sym c.deref.ensures.value) ∙ (sym c.place_for.ensures ∙ c.in_ok-place.was) in
    subst (λ (w : List Receipt). Some c.id.result ≡ option_map (λ (r : Receipt). r.id) (find test w)) c.self.view_is
    (ap Some c.id.ensures ∙ ap (λ (chain : Chain). Some chain.id) c.index.ensures
    ∙ ap (option_map (λ (r : Receipt). r.id)) (found_there receipt_of test c.self.inside.chains.items c.in_ok-place.place c.index.result.now stands))
