use Rattle.std.proofs.Common.{arith}
use Rattle.mc_types.proofs.Digits.{next_digit}
use Rattle.mc_types.proofs.id.number_of.Goals as goal

pub overflow_mul-number : goal.overflow_mul-number
overflow_mul-number c = let next = next_digit c.args.text.now c.loop-digit.digit-index c.requires (omega arith) in omega arith
