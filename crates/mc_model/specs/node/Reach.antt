-- What a tick is told of sessions and of messages (own).
use Rattle.std.specs.Prelude.{ℕ, Bool, true, ◌&&◌, List}

-- which accounts have a session that may receive, and of which messages an attempt may begin
pub record Reach : Type 0 where
  pub up : List ℕ → Bool
  pub may : ℕ → Bool

-- an attempt may begin of all messages
abbrev pub of_all : (List ℕ → Bool) → Reach
of_all up = record { up = up; may = λ id. true }

-- an attempt of a message may begin, whose target this is
abbrev pub may_begin : Reach → ℕ → List ℕ → Bool
may_begin reach id target = reach.may id && reach.up target
