use Rattle.std.proofs.Common.{◌≡◌, ◌++◌, length, drop}
use Rattle.mc_types.proofs.Digits.{last_digits}
use Rattle.mc_types.proofs.id.MsgId.text.Given as goal

abbrev pub invariant-loop-place : goal.invariant-loop-place
invariant-loop-place l = record {
  ten : length l.digits ≡ 10;
  written : last_digits l.place l.number ++ drop l.place l.digits ≡ last_digits 10 l.fn.self;
}
