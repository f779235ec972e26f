use Rattle.std.proofs.Common.{◌≡◌, drop}
use Rattle.config.specs.Listen.{port_digits}
use Rattle.config.proofs.listen.port_digits.Given as goal

abbrev pub invariant-loop-place : goal.invariant-loop-place
invariant-loop-place l = port_digits (drop l.place l.text) ≡ port_digits l.text
