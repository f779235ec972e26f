-- The windows of a session: at most ten requests wait, each way (SMPP 3.4, 2.9; ten: own).
use Rattle.std.specs.Prelude.{ℕ, ◌+◌, Bool, nat_le, nat_lt, List, [], ◌∷◌, length, if◌then◌else◌}
use Rattle.sessions.specs.declared.pushed.Pushed.{Pushed}

-- a window has room for another
abbrev pub has_room : {A : Type 0} → List A → Bool
has_room window = nat_lt (length window) 10

-- the others, when the first that passes a test leaves
abbrev pub without_first : {A : Type 0} → (A → Bool) → List A → List A
without_first test [] = []
without_first test (x ∷ xs) = if test x then xs else x ∷ without_first test xs

-- The pushed request waits 30 seconds or more.
abbrev pub is_overdue : ℕ → Pushed → Bool
is_overdue now pushed = nat_le (pushed.since + 30) now
