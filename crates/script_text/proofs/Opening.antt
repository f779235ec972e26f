-- The nodes of a world that opens.
use Rattle.std.proofs.Common.{◌≡◌, ℕ, zero, suc, ◌+◌, length, map, Some, ◌∙◌, ap, arith}
use Rattle.std.specs.Prelude.{slice_get}
use Rattle.std.specs.List.{range_with_len}
use Rattle.std.proofs.lemmas.List.FromFn.{length-map-range_with_len}
use Rattle.script_text.specs.Settings.{Settings}
use Rattle.script_text.specs.Runner.{Runner, runner_opened}
use Rattle.script_text.specs.World.{node_opened, opened}

-- each runner of a row stands at its place
in_row : (of : ℕ → Runner) (first count place : ℕ) (runner : Runner) → slice_get (map of (range_with_len first count)) place ≡ Some runner →
    of (first + place) ≡ runner
in_row of first zero place runner is = absurd cc
in_row of first (suc count) zero runner is =
    let here : of first ≡ runner = cc in
    let same : first + 0 ≡ first = omega arith in
    ap of same ∙ here
in_row of first (suc count) (suc place) runner is =
    let same : first + suc place ≡ first + 1 + place = omega arith in
    ap of same ∙ in_row of (first + 1) count place runner is

pub opened_there : (settings : Settings) (count serial place : ℕ) (runner : Runner) → slice_get (opened settings count serial).runners place ≡ Some runner →
    runner_opened (node_opened settings count serial (suc place)) ≡ runner
opened_there settings count serial place runner is =
    let new : ℕ → Runner = λ node. runner_opened (node_opened settings count serial node) in
    let same : suc place ≡ 1 + place = omega arith in
    ap new same ∙ in_row new 1 count place runner is

pub opened_count : (settings : Settings) (count serial : ℕ) → length (opened settings count serial).runners ≡ count
opened_count settings count serial = length-map-range_with_len (λ node. runner_opened (node_opened settings count serial node)) 1 count
