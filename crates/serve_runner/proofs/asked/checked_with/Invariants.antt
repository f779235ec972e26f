use Rattle.std.proofs.Common.{◌≡◌, false, map, drop}
use Rattle.std.specs.String.{string_bytes}
use Rattle.serve_runner.specs.Arguments.{checks_from}
use Rattle.serve_runner.proofs.asked.checked_with.Given as goal

abbrev pub invariant-loop-place : goal.invariant-loop-place
invariant-loop-place l = checks_from l.is_strict l.place (map string_bytes (drop l.place l.words)) ≡ checks_from false 0 (map string_bytes l.words)
