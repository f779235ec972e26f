use Rattle.std.proofs.Common.{sym, arith, drop}
use Rattle.account_limits.proofs.Grows.{grows, none_above}
use Rattle.account_limits.proofs.number.read_number.Goals as goal

pub returns-then-number-most : goal.returns-then-number-most
returns-then-number-most c =
    sym (none_above c.args.most c.args.text.now (omega (arith, c.loop-octet.invariant, grows c.loop-octet.number (drop c.loop-octet.octet-index c.args.text.now))))
