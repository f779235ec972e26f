use Rattle.std.proofs.Common.{sym, ap, ◌∙◌}
use Rattle.std.specs.Prelude.{option_map}
use Rattle.script_lines.specs.Said.{said_by}
use Rattle.script_runner.proofs.Steps.{first_line_if, next_line_if, number_fits, says_nothing}
use Rattle.script_runner.proofs.run.step.Goals as goal

pub returns-in_default : goal.returns-in_default
returns-in_default c =
    says_nothing c.args.stage.now c.args.stage.now c.args.line.now c.args.text.now.items c.args.text.now.items
    (sym c.in_ok-said.ensures.said ∙ ap (option_map said_by) c.in_default.is)

pub start-requires-clause-number : goal.start-requires-clause-number
start-requires-clause-number c =
    number_fits c.spelled_so.ensures c.args.line.now (said_by c.in-Some.said) (sym c.in_ok-said.ensures.said ∙ ap (option_map said_by) c.in-Some.is)

pub act-requires-clause-number : goal.act-requires-clause-number
act-requires-clause-number c =
    number_fits c.spelled_so.ensures c.args.line.now (said_by c.in-Some.said) (sym c.in_ok-said.ensures.said ∙ ap (option_map said_by) c.in-Some.is)

pub returns-in-None : goal.returns-in-None
returns-in-None c =
    let said = said_by c.in-Some.said in
    let is_said = sym c.in_ok-said.ensures.said ∙ ap (option_map said_by) c.in-Some.is in
    first_line_if c.start.result c.args.stage.now c.start.new.stage c.args.line.now said c.args.text.now.items c.in-None.is is_said
    (number_fits c.spelled_so.ensures c.args.line.now said is_said) c.start.ensures

pub returns-in-Some-stage : goal.returns-in-Some-stage
returns-in-Some-stage c =
    let is_said = sym c.in_ok-said.ensures.said ∙ ap (option_map said_by) c.in-Some.is in
    next_line_if c.act.result c.args.stage.now c.in-Some-stage.centre c.act.new.centre c.args.line.now
    (said_by c.in-Some.said) c.args.text.now.items c.act.new.text.items
    c.in-Some-stage.is is_said c.act.ensures
