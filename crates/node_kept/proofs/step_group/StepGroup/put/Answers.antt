use Rattle.std.proofs.Common.{◌≡◌, ◌++◌, Option, None, Some, rules, refl, sym, ap, ◌∙◌, arith}
use Rattle.synod_acceptor.specs.declared.record.Change.{Change}
use Rattle.node_parts.specs.Lists.{listed}
use Rattle.node_kept.specs.declared.grouped_step.GroupedStep.{GroupedStep}
use Rattle.node_kept.proofs.Groups.{changes_fit, joined}
use Rattle.node_kept.proofs.step_group.StepGroup.put.Goals as goal

pub push_reserved-requires-3 : goal.push_reserved-requires-3
push_reserved-requires-3 c =
    let fits = changes_fit c.self.inside.was.value c.self.inside.steps c.self.inside.outputs c.self.inside.changes c.self.inside.room c.args.self.now
    c.args.packet c.args.id c.self.invariant c.self.view_is c.requires.asked c.requires.allowed in
    grind (arith, fits)

pub invariant_of-self : goal.invariant_of-self
invariant_of-self c =
    let new : GroupedStep = record {
      packet = c.args.packet;
      id = c.args.id;
      next = record c.args.step.next { room = None; change = c.take.new.self };
      whole = c.of-whole.result;
    } in
    let saved : Some c.in-Some.change ≡ c.args.step.next.change = sym c.in-Some.is ∙ c.take.ensures.value in
    joined c.self.inside.was.value c.self.inside.steps c.self.inside.outputs c.self.inside.changes c.self.inside.room c.args.self.now
    c.args.packet c.args.id c.self.invariant c.self.view_is c.requires.asked c.requires.allowed c.args.step new c.push_reserved.new.self
    c.push_reserved-2.new.self c.push_reserved-3.new.self refl refl c.requires.alone (sym c.of-whole.ensures) (search rules) c.requires.saves
    c.push_reserved.ensures.items c.push_reserved-2.ensures.items
    (c.push_reserved-3.ensures.items ∙ ap (λ (change : Option Change). c.self.inside.changes.items ++ listed change) saved)
    c.push_reserved.ensures.capacity c.push_reserved-2.ensures.capacity c.push_reserved-3.ensures.capacity
