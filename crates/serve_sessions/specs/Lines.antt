-- The lines that wait to be written for an operator (own).
use Rattle.std.specs.Prelude.{◌==◌, ◌&&◌, ◌+◌, ◌-◌, ◌^◌, ◌++◌, ◌∷◌, ℕ, Bool, String, zero, suc, List, [], length, min, not}
use Rattle.std.specs.Global.{Global}
use Rattle.serve_sessions.specs.declared.lines.Told.{Told}
use Rattle.serve_sessions.specs.declared.lines.Told.TheVariants as told

pub record Lines : Type 0 where
  -- the oldest first
  pub waiting : List (String Global)
  -- how many are lost, and not told yet
  pub lost : ℕ
  pub is_shut : Bool

-- whether who writes lines has to wait
abbrev pub is_idle : Lines → Bool
is_idle lines = (length lines.waiting == 0) && ((lines.lost == 0) && not lines.is_shut)

abbrev pub with_line : Lines → String Global → Lines
with_line lines line = record lines { waiting = lines.waiting ++ line ∷ [] }

-- another one is lost, and counted
abbrev pub with_loss : Lines → Lines
with_loss lines = record lines { lost = min (lines.lost + 1) (2 ^ 64 - 1) }

-- what is told next: how many are lost, before the lines that wait
abbrev pub next_of : List (String Global) → Told
next_of [] = told.End
next_of (line ∷ later) = told.Line line

abbrev pub next_after : ℕ → List (String Global) → Told
next_after zero waiting = next_of waiting
next_after (suc lost) waiting = told.Lost (suc lost)

abbrev pub next : Lines → Told
next lines = next_after lines.lost lines.waiting

abbrev pub without_next : List (String Global) → List (String Global)
without_next [] = []
without_next (line ∷ later) = later

abbrev pub left_after : ℕ → List (String Global) → List (String Global)
left_after zero waiting = without_next waiting
left_after (suc lost) waiting = waiting

abbrev pub after_next : Lines → Lines
after_next lines = record lines { waiting = left_after lines.lost lines.waiting; lost = 0 }
