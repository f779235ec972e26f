use Rattle.std.proofs.Common.{◌≡◌, drop}
use Rattle.config.specs.Digests as spec
use Rattle.config.proofs.digests.are_numbers_apart.Given as goal

abbrev pub invariant-loop-place : goal.invariant-loop-place
invariant-loop-place l = spec.are_apart (drop l.place l.numbers) ≡ spec.are_apart l.numbers
