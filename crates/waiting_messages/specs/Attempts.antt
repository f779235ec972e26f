-- From when on the next attempt of a message is due (own).
use Rattle.std.specs.Prelude.{ℕ, ◌+◌, ◌*◌, min, List, [], ◌∷◌, Option, Some, None}
use Rattle.mc_model.specs.message.Submission.{Submission}
use Rattle.mc_model.specs.message.Decree.{Attempt, Decree, Failed, Fate, Kind, Taken, Told}
use Rattle.mc_model.specs.message.Neighbours.{retry_delay}
use Rattle.mc_model.specs.message.Chain.{attempts_in, taken_in}

-- A message that was taken is due at its schedule; one whose attempt failed 60 seconds later for each attempt so far, at the end of 2099 at most. Behind any
-- other decree no attempt follows.
abbrev pub due_behind : Kind → ℕ → ℕ → ℕ → Option ℕ
due_behind (Taken message) schedule moment attempts = Some schedule
due_behind (Attempt number) schedule moment attempts = None
due_behind (Failed error) schedule moment attempts = Some (min (moment + retry_delay * attempts) 4102444799)
due_behind (Fate final error) schedule moment attempts = None
due_behind Told schedule moment attempts = None

abbrev pub due_of : Option Submission → Decree → ℕ → Option ℕ
due_of None newest attempts = None
due_of (Some taken) newest attempts = due_behind newest.kind taken.schedule newest.moment attempts

abbrev pub next_due : List Decree → Option ℕ
next_due [] = None
next_due (newest ∷ older) = due_of (taken_in (newest ∷ older)) newest (attempts_in (newest ∷ older))
