use Rattle.std.proofs.Common.{◌∙◌, get_or, inl, inr, refl}
use Rattle.node_threads.proofs.CarriedSlips.{carries_both, carries_one, next_come, none_left}
use Rattle.node_threads.proofs.carrying.take_each.Goals as goal

pub loop-number-preserved : goal.loop-number-preserved
loop-number-preserved g c = (
  carries_both c.args.door.now.node c.args.seat.now.slips c.loop-number.seat.slips c.take.new.seat.slips c.loop-number.invariant.0
      (carries_one c.args.door.now.node _ c.loop-number.seat.slips c.take.new.seat.slips c.in_ok-take.field-0 c.in_ok-take.ensures.slips
      c.in_ok-take.ensures.step),
  c.take.ensures.setup ∙ c.loop-number.invariant.1,
  λ number among.
      next_come c.args.door.now.node number (get_or c.args.numbers.now c.loop-number.number-index 0) c.loop-number.number-index c.args.numbers.now c.args.seat.now.slips
      c.loop-number.seat.slips c.take.new.seat.slips c.in_ok-take.field-0 c.loop-number-test.true refl c.in_ok-take.ensures.slips
      c.in_ok-take.ensures.step c.loop-number.invariant.0 (c.loop-number.invariant.2 number among),
)

pub returns-clause-all : goal.returns-clause-all
returns-clause-all g c = λ number among. elim (c.loop-number.invariant.2 number among) [
  | inl came ↦ came
  | inr left ↦ absurd (none_left number c.loop-number.number-index c.args.numbers.now c.loop-number-test.false left)
]
