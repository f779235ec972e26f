use Rattle.std.proofs.Common.{◌≡◌, ℕ, ◌<◌, ◌≤◌, slice_get, Some}
use Rattle.config_warnings.proofs.lines.end_of_line.Given as goal

abbrev pub invariant-loop-end : goal.invariant-loop-end
invariant-loop-end l = (place : ℕ) → l.start ≤ place → place < l.end → ¬ (slice_get l.octets place ≡ Some 10)
