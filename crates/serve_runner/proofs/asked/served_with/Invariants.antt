use Rattle.std.proofs.Common.{◌≡◌, map, drop}
use Rattle.std.specs.String.{string_bytes}
use Rattle.serve_runner.specs.Arguments.{plain, serves_from}
use Rattle.serve_runner.proofs.asked.served_with.Given as goal

abbrev pub invariant-loop-place : goal.invariant-loop-place
invariant-loop-place l = serves_from l.options l.place (map string_bytes (drop l.place l.words)) ≡ serves_from plain 0 (map string_bytes l.words)
