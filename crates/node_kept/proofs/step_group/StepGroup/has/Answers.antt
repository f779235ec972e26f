use Rattle.std.proofs.Common.{List, sym, ap, ◌∙◌}
use Rattle.std.specs.Prelude.{◌==◌}
use Rattle.std.specs.List.{list_any}
use Rattle.node_kept.specs.declared.grouped_step.GroupedStep.{GroupedStep}
use Rattle.node_kept.specs.Grouping.{Grouped, is_asked_in}
use Rattle.node_kept.proofs.Groups.{asked_is}
use Rattle.node_kept.proofs.step_group.StepGroup.has.Goals as goal

pub returns : goal.returns
returns c =
    c.any_for.ensures
    ∙ ap (λ (steps : List GroupedStep). list_any (λ (s : GroupedStep). s.id == c.args.id) steps) c.deref.ensures.value
    ∙ sym (asked_is c.self.inside.was.value c.self.inside.steps.items c.args.id c.self.invariant.steps_are)
    ∙ ap (λ (g : Grouped). is_asked_in g.was.setup g.packets c.args.id) c.self.view_is
