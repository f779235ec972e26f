use Rattle.std.proofs.Common.{◌≡◌, ◌++◌, ◌∷◌, ◌-◌, ℕ, [], length, take, rules, ap, ◌∙◌}
use Rattle.std.specs.Vec.{vec_len}
use Rattle.node_kept.proofs.Together.{group_less}
use Rattle.node_kept.proofs.step_group.StepGroup.split_last.Goals as goal

pub invariant_of-firsts : goal.invariant_of-firsts
invariant_of-firsts c =
    let split : c.self.inside.steps.items ≡ c.pop-3.new.self.items ++ c.in-Some.field-0 ∷ [] = search rules in
    let outputs : vec_len c.self.inside.outputs ≡ length c.self.inside.outputs.items = search rules in
    let changes : vec_len c.self.inside.changes ≡ length c.self.inside.changes.items = search rules in
    group_less c.self.inside.was.value c.self.inside.steps c.pop-3.new.self c.self.inside.outputs c.pop.new.self c.self.inside.changes c.pop-2.new.self
    c.self.inside.room c.in-Some.field-0 c.self.invariant split
    (c.pop.ensures.rest ∙ ap (λ (n : ℕ). take (n - 1) c.self.inside.outputs.items) outputs)
    (c.pop-2.ensures.rest ∙ ap (λ (n : ℕ). take (n - 1) c.self.inside.changes.items) changes) c.pop-3.ensures.capacity c.pop.ensures.capacity
    c.pop-2.ensures.capacity
