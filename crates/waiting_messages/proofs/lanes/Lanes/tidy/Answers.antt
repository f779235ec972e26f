use Rattle.std.proofs.Common.{rules, ◌∙◌, ap}
use Rattle.std.specs.Prelude.{not}
use Rattle.std.proofs.lemmas.Fn.{filter_same}
use Rattle.waiting_messages.specs.Lanes.{is_empty, times_in}
use Rattle.waiting_messages.proofs.Standing.{times-tidy}
use Rattle.waiting_messages.proofs.lanes.Lanes.tidy.Goals as goal

pub invariant_of-self : goal.invariant_of-self
invariant_of-self c q =
    let kept = filter_same _ (λ lane. not (is_empty lane)) _ (λ x b f' k. search rules) _ _ c.retain.ensures.filtered in
    ap (times_in q) kept ∙ times-tidy q c.self.inside.lanes.items ∙ c.self.invariant q

pub returns : goal.returns
returns c =
    let kept = filter_same _ (λ lane. not (is_empty lane)) _ (λ x b f' k. search rules) _ _ c.retain.ensures.filtered in
    rw (← c.self.view_is) (search (rules, kept))
