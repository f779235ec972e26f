use Rattle.std.proofs.Common.{◌≡◌, Some, None, List, find, map, sym, ap, ◌∙◌, subst}
use Rattle.std.specs.Prelude.{option_map}
use Rattle.std.specs.List.{position}
use Rattle.mc_model.specs.message.Chain.{Chain}
use Rattle.mc_model.specs.node.Outputs.{Receipt}
use Rattle.sessions.specs.Windows.{without_first}
use Rattle.esme_service.specs.Reports.{is_for}
use Rattle.node_model.specs.Reported.{receipt_of}
use Rattle.esme_service.proofs.Queued.{found_there, left_there, nothing_found, nothing_left}
use Rattle.esme_service.proofs.waiting.Waiting.take_for.Goals as goal

pub returns-in_err-place-clause-taken : goal.returns-in_err-place-clause-taken
returns-in_err-place-clause-taken c =
    let test = is_for c.args.account.now in
    let nowhere = ap (position (λ (chain : Chain). test (receipt_of chain))) (sym c.deref.ensures.value) ∙ (sym c.place_for.ensures ∙ c.in_err-place.was) in
    ap (option_map receipt_of) c.from_residual.ensures
    ∙ subst (λ (w : List Receipt). None ≡ find test w) c.self.view_is (sym (nothing_found receipt_of test c.self.inside.chains.items nowhere))

pub returns-in_err-place-clause-rest : goal.returns-in_err-place-clause-rest
returns-in_err-place-clause-rest c =
    let test = is_for c.args.account.now in
    let nowhere = ap (position (λ (chain : Chain). test (receipt_of chain))) (sym c.deref.ensures.value) ∙ (sym c.place_for.ensures ∙ c.in_err-place.was) in
    subst (λ (w : List Receipt). w ≡ without_first test w) c.self.view_is (nothing_left receipt_of test c.self.inside.chains.items nowhere)

pub returns-clause-taken : goal.returns-clause-taken
returns-clause-taken c =
    let test = is_for c.args.account.now in
    let stands = ap (position (λ (chain : Chain). test (receipt_of chain))) (sym c.deref.ensures.value) ∙ (sym c.place_for.ensures ∙ c.in_ok-place.was) in
    subst (λ (w : List Receipt). Some (receipt_of c.remove.result) ≡ find test w) c.self.view_is
    (ap (λ (chain : Chain). Some (receipt_of chain)) c.remove.ensures.value
    ∙ found_there receipt_of test c.self.inside.chains.items c.in_ok-place.place c.remove.result stands)

pub returns-clause-rest : goal.returns-clause-rest
returns-clause-rest c =
    let test = is_for c.args.account.now in
    let stands = ap (position (λ (chain : Chain). test (receipt_of chain))) (sym c.deref.ensures.value) ∙ (sym c.place_for.ensures ∙ c.in_ok-place.was) in
    subst (λ (w : List Receipt). map receipt_of c.remove.new.self.items ≡ without_first test w) c.self.view_is
    (ap (map receipt_of) c.remove.ensures.items ∙ left_there receipt_of test c.self.inside.chains.items c.in_ok-place.place c.remove.result stands)
