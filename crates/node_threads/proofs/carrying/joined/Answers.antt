use Rattle.std.proofs.Common.{◌∙◌, get_or, inl, inr, refl}
use Rattle.node_threads.proofs.CarriedSlips.{next_split, none_left}
use Rattle.node_threads.proofs.carrying.joined.Goals as goal

pub loop-number-preserved : goal.loop-number-preserved
loop-number-preserved g c = (
  c.join.ensures.was ∙ c.loop-number.invariant.0,
  λ number among.
      next_split number (get_or c.args.numbers.now c.loop-number.number-index 0) c.loop-number.number-index c.args.numbers.now _ _ _ _ c.loop-number-test.true refl
      c.in_ok-join.ensures.adds (c.loop-number.invariant.1 number among),
)

pub returns-clause-all : goal.returns-clause-all
returns-clause-all g c = λ number among. elim (c.loop-number.invariant.1 number among) [
  | inl stands ↦ stands
  | inr left ↦ absurd (none_left number c.loop-number.number-index c.args.numbers.now c.loop-number-test.false left)
]
