use Rattle.std.proofs.Common.{arith, sym, ◌∙◌, length-set}
use Rattle.mc_types.proofs.Digits.{last_digits-none, last_digits-more, last_digits-decimal}
use Rattle.mc_types.proofs.id.MsgId.text.Goals as goal

pub loop-place-preserved : goal.loop-place-preserved
loop-place-preserved c = record {
  ten = omega (arith, length-set c.loop-place.digits);
  written = last_digits-more c.loop-place.place c.loop-place.number c.loop-place.digits _ (omega arith) (omega arith) c.loop-place.invariant.written;
}

pub returns-clause-text : goal.returns-clause-text
returns-clause-text c =
    sym (last_digits-none c.loop-place.place c.loop-place.number c.loop-place.digits (omega arith))
    ∙ c.loop-place.invariant.written
    ∙ last_digits-decimal 9 c.args.self (omega arith) (omega arith) (omega arith)
