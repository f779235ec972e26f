use Rattle.std.proofs.Common.{◌≡◌, ◌++◌, List, get_or, sym, ap, ◌∙◌, arith}
use Rattle.std.proofs.lemmas.List.{append-nil}
use Rattle.world_runs.specs.Statements.{Statement, stated_at}
use Rattle.world_runs.specs.Traces.{Answer, told_in}
use Rattle.world_runs.proofs.Stating.{nothing_told, told_next}
use Rattle.world_runs.proofs.trace.Trace.statements.Goals as goal
use Rattle.world_runs.proofs.trace.Trace.statements.Goals.{in-Ok+in_ok-add_given, in_default}

pub loop-step-preserved : goal.loop-step-preserved
loop-step-preserved c =
    let answers = c.args.self.now.answers.items in
    let place = c.loop-step.step in
    let answer = c.answer-item.result in
    let before = c.loop-step.statements.items in
    let is : answer ≡ get_or answers place answer = c.answer-item.is ∙ ap (λ (xs : List Answer). get_or xs place answer) c.deref-answer-items.ensures.value in
    elim c.match-answer.branch [
      | in-Ok+in_ok-add_given w ↦
          ap (λ v. v.items) w.statements-is
          ∙ told_next answers place answer before w.add_given.new.statements.items (omega (arith, c.loop-step-test.true)) is c.loop-step.invariant
          (w.in_ok-add_given.ensures ∙ ap (λ (x : Answer). before ++ stated_at place (told_in x)) (sym w.in-Ok.is))
      | in_default w ↦
          ap (λ v. v.items) w.statements-is
          ∙ told_next answers place answer before before (omega (arith, c.loop-step-test.true)) is c.loop-step.invariant
          (sym (append-nil before) ∙ ap (λ (told : List Statement). before ++ told) (sym (nothing_told place answer w.in_default.not-Ok)))
    ]
