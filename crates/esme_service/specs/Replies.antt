-- The node answers a request that waited: whose it is, and that it leaves its window (own).
use Rattle.std.specs.Prelude.{ℕ, ◌==◌, List, [], ◌∷◌, find, Option, Some, None}
use Rattle.std.specs.Ordering.{nat_cmp}
use Rattle.std.specs.Map.{set_value}
use Rattle.std.specs.BTreeMap.{is_at}
use Rattle.sessions.specs.Session.{Session}
use Rattle.sessions.specs.Steps.{on_reply}
use Rattle.sessions.specs.declared.request.OpenRequest.{OpenRequest}
use Rattle.esme_service.specs.Pushes.{session_at}

-- a request that waits, and the session that holds it
pub record Owned : Type 0 where
  pub number : ℕ
  pub request : OpenRequest

abbrev pub found_at : ℕ → Option OpenRequest → Option Owned → Option Owned
found_at number None others = others
found_at number (Some request) others = Some (record { number = number; request = request })

-- the request of a ticket, if a session that is connected holds it
abbrev pub owner_of : List (ℕ × Session) → ℕ → Option Owned
owner_of [] ticket = None
owner_of (entry ∷ entries) ticket = found_at entry.0 (find (λ request. request.ticket == ticket) entry.1.requests) (owner_of entries ticket)

abbrev pub replied_at : List (ℕ × Session) → ℕ → ℕ → Option Session → List (ℕ × Session)
replied_at connected number ticket None = connected
replied_at connected number ticket (Some session) = set_value (is_at (nat_cmp number)) connected (on_reply session ticket)

-- the request leaves the window of its session
abbrev pub replied : List (ℕ × Session) → ℕ → Option Owned → List (ℕ × Session)
replied connected ticket None = connected
replied connected ticket (Some owned) = replied_at connected owned.number ticket (session_at connected owned.number)
