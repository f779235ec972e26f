use Rattle.std.proofs.Common.{ℕ, sym, ap, ◌∙◌, arith}
use Rattle.std.specs.Global.{Vec}
use Rattle.script_runner.proofs.Replaying.{all_came, begins, came_to, one_came, one_passed}
use Rattle.script_runner.proofs.centre.Centre.comes_to_all.Goals.{else-is_up, then-is_up+in_ok-deliver}
use Rattle.script_runner.proofs.centre.Centre.comes_to_all.Goals as goal

pub loop-place-init : goal.loop-place-init
loop-place-init c = begins c.args.number c.args.self.now c.args.text.now.items

pub loop-place-preserved : goal.loop-place-preserved
loop-place-preserved c = elim c.if-is_up.branch [
  | then-is_up+in_ok-deliver w ↦
      came_to c.args.number c.loop-place.place c.args.self.now c.if-is_up.self c.args.text.now.items c.if-is_up.text.items w.deliver.new.self
      w.deliver.new.text.items w.self-is (ap (λ (t : Vec ℕ). t.items) w.text-is)
      (one_came c.args.number c.of-node.result c.loop-place.place c.args.self.now c.loop-place.self w.deliver.new.self c.args.text.now.items
      c.loop-place.text.items w.deliver.new.text.items c.loop-place.invariant c.of-node.ensures (sym c.is_up.ensures ∙ w.if-is_up.true)
      w.in_ok-deliver.ensures.comes)
  | else-is_up w ↦
      came_to c.args.number c.loop-place.place c.args.self.now c.if-is_up.self c.args.text.now.items c.if-is_up.text.items c.loop-place.self
      c.loop-place.text.items w.self-is (ap (λ (t : Vec ℕ). t.items) w.text-is)
      (one_passed c.args.number c.of-node.result c.loop-place.place c.args.self.now c.loop-place.self c.args.text.now.items c.loop-place.text.items
      c.loop-place.invariant c.of-node.ensures (sym c.is_up.ensures ∙ w.if-is_up.false))
]

pub returns : goal.returns
returns c =
    all_came c.args.number c.loop-place.place c.args.self.now c.loop-place.self c.args.text.now.items c.loop-place.text.items
    (omega (arith, c.loop-place-test.false)) c.loop-place.invariant
