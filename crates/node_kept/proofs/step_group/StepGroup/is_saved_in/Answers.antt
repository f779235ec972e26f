use Rattle.std.proofs.Common.{◌≡◌, ◌≢◌, Some, false, true, true≢false, rules, slice_get, sym, ap, subst, ◌∙◌}
use Rattle.mc_model.specs.synod.Acceptor.{Records}
use Rattle.synod_acceptor.specs.Records.{entries_of, record_at}
use Rattle.synod_acceptor.specs.Votes.{slot_recorded}
use Rattle.node_kept.specs.Grouping.{Grouped, left_by_all}
use Rattle.node_kept.specs.Keeping.{records_of}
use Rattle.node_kept.proofs.Together.{first_change, has_change}
use Rattle.node_kept.proofs.step_group.StepGroup.is_saved_in.Goals as goal

pub unreachable-requires : goal.unreachable-requires
unreachable-requires c =
    let some = has_change c.self.inside.was.value c.self.inside.steps.items c.self.inside.changes.items c.self.invariant.steps_are c.self.invariant.changes_are
    (λ none. c.requires (sym (ap (λ (g : Grouped). g.packets) c.self.view_is) ∙ none)) in
    search rules

pub returns-clause-saved : goal.returns-clause-saved
returns-clause-saved c =
    subst (λ (g : Grouped). c.has_record.result ≡ true → record_at (entries_of c.args.records.now) ≢ records_of g.was.messages.entries) c.self.view_is
    (λ saved same.
    let at : slice_get c.self.inside.changes.items 0 ≡ Some c.in-Some.change.now = search rules in
    let is = first_change c.self.inside.was.value c.self.inside.steps.items c.self.inside.changes.items c.in-Some.change.now c.self.invariant.steps_are
    c.self.invariant.ascend c.self.invariant.changes_are at in
    is.alters (sym (c.has_record.ensures.0 saved) ∙ ap (λ (records : Records). records (slot_recorded c.in-Some.change.now.after)) same))

pub returns-clause-unsaved : goal.returns-clause-unsaved
returns-clause-unsaved c =
    subst (λ (g : Grouped). c.has_record.result ≡ false → record_at (entries_of c.args.records.now) ≢ left_by_all g.was g.packets) c.self.view_is
    (λ unsaved same.
    let at : slice_get c.self.inside.changes.items 0 ≡ Some c.in-Some.change.now = search rules in
    let is = first_change c.self.inside.was.value c.self.inside.steps.items c.self.inside.changes.items c.in-Some.change.now c.self.invariant.steps_are
    c.self.invariant.ascend c.self.invariant.changes_are at in
    true≢false (sym (c.has_record.ensures.1 (ap (λ (records : Records). records (slot_recorded c.in-Some.change.now.after)) same ∙ is.leaves)) ∙ unsaved))
