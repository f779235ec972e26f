use Rattle.std.proofs.Common.{ap, ◌∙◌, rules}
use Rattle.std.specs.Prelude.{Some}
use Rattle.node_model.specs.Answers.{still_waits}
use Rattle.std.proofs.lemmas.Fn.{filter_same}
use Rattle.waiting_requests.specs.Queues.{boxed_in}
use Rattle.waiting_requests.proofs.Walks.{in_box, kept_in}
use Rattle.waiting_requests.proofs.walk.keep_waiting.Goals as goal

pub returns-clause-held : goal.returns-clause-held
returns-clause-held c =
    let test = still_waits c.args.nodes (Some c.args.chain.now.decrees) c.args.chain.now.id in
    ap boxed_in (filter_same _ (λ b. test (in_box b)) _ (λ x b g k. search rules) _ _ c.retain.ensures.filtered) ∙ kept_in test c.args.held.now.items
