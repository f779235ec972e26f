use Rattle.std.proofs.Common.{◌≡◌, List, [], ap, subst, ◌∙◌}
use Rattle.synod_acceptor.specs.declared.record.Change.{Change}
use Rattle.node_kept.specs.Grouping.{ChangesEach, Grouped, changed_by_all, left_by_all}
use Rattle.node_kept.specs.Keeping.{kept_of, records_of}
use Rattle.node_kept.proofs.Together.{change_each, leave_all, no_change}
use Rattle.node_kept.proofs.step_group.StepGroup.saves.Goals as goal

pub returns-clause-leaves : goal.returns-clause-leaves
returns-clause-leaves c =
    let k = c.self.inside.was.value in
    subst (λ (g : Grouped). changed_by_all g.changes (records_of g.was.messages.entries) ≡ left_by_all g.was g.packets) c.self.view_is
    (ap (λ (cs : List Change). changed_by_all cs (records_of k.messages.entries)) c.self.invariant.changes_are
    ∙ leave_all k c.self.inside.steps.items c.self.invariant.steps_are c.self.invariant.ascend)

pub returns-clause-changes : goal.returns-clause-changes
returns-clause-changes c =
    subst (λ (g : Grouped). ChangesEach g.was.setup (kept_of g.was) g.packets) c.self.view_is
    (change_each c.self.inside.was.value c.self.inside.steps.items c.self.invariant.steps_are c.self.invariant.ascend)

pub returns-clause-none : goal.returns-clause-none
returns-clause-none c =
    subst (λ (g : Grouped). g.packets ≡ [] → g.changes ≡ []) c.self.view_is
    (λ none. c.self.invariant.changes_are ∙ no_change c.self.inside.was.value c.self.inside.steps.items none)
