use Rattle.std.proofs.Common.{ap, ◌∙◌, rules}
use Rattle.std.specs.Prelude.{not}
use Rattle.node_model.specs.Kept.{Held}
use Rattle.node_model.specs.Ticks.{is_late}
use Rattle.std.proofs.lemmas.Fn.{filter_same}
use Rattle.waiting_requests.specs.Queues.{boxed_in}
use Rattle.waiting_requests.proofs.Walks.{in_box, kept_in}
use Rattle.waiting_requests.proofs.walk.keep_timely.Goals as goal

pub returns-clause-held : goal.returns-clause-held
returns-clause-held c =
    let test = λ (h : Held). not (is_late c.args.clock h) in
    ap boxed_in (filter_same _ (λ b. test (in_box b)) _ (λ x b g k. search rules) _ _ c.retain.ensures.filtered) ∙ kept_in test c.args.held.now.items
