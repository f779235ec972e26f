-- The sessions that are connected, by their numbers: one begins, is served, and goes (own).
use Rattle.std.specs.Prelude.{ℕ, List, Option, Some, None, option_map, if◌then◌else◌}
use Rattle.std.specs.Ordering.{nat_cmp}
use Rattle.std.specs.Map.{remove_entry, set_value}
use Rattle.std.specs.BTreeMap.{is_at, insert_entry}
use Rattle.sessions.specs.Session.{Session}
use Rattle.sessions.specs.States.{is_gone}
use Rattle.sessions.specs.Steps.{on_answer, on_wait}
use Rattle.sessions.specs.Steps as sessions
use Rattle.sessions.specs.declared.pushed.Pushed.{Pushed}
use Rattle.sessions.specs.declared.requested.Requested.{Requested}
use Rattle.esme_service.specs.Pushes.{session_at}

abbrev pub session_or_opened : Option Session → Session
session_or_opened None = sessions.opened
session_or_opened (Some session) = session

-- the session of a number: one that is not connected begins now
abbrev pub session_in : List (ℕ × Session) → ℕ → Session
session_in connected number = session_or_opened (session_at connected number)

-- the session of a number gives its place to this one
abbrev pub put_at : List (ℕ × Session) → ℕ → Session → List (ℕ × Session)
put_at connected number session = insert_entry nat_cmp (remove_entry (is_at (nat_cmp number)) connected) number session

-- one that is gone is connected no longer: what comes next under its number begins another
abbrev pub kept_at : List (ℕ × Session) → ℕ → Session → List (ℕ × Session)
kept_at connected number session = if is_gone session.state then remove_entry (is_at (nat_cmp number)) connected else put_at connected number session

-- ---- a request that waits

-- a request that waits takes its place in the window
abbrev pub in_window : Session → Requested → ℕ → Option ℕ → Session
in_window session requested sequence None = session
in_window session requested sequence (Some ticket) = on_wait session (record { ticket = ticket; requested = requested; sequence = sequence })

abbrev pub waits_if : List (ℕ × Session) → ℕ → Requested → ℕ → Option ℕ → Option Session → List (ℕ × Session)
waits_if connected number requested sequence ticket None = connected
waits_if connected number requested sequence ticket (Some session) =
    set_value (is_at (nat_cmp number)) connected (in_window session requested sequence ticket)

-- it waits on the session of a number, if that is connected
abbrev pub waits_at : List (ℕ × Session) → ℕ → Requested → ℕ → Option ℕ → List (ℕ × Session)
waits_at connected number requested sequence ticket = waits_if connected number requested sequence ticket (session_at connected number)

-- ---- what was pushed, and is not sent

abbrev pub takes_back_if : List (ℕ × Session) → ℕ → ℕ → Option Session → List (ℕ × Session)
takes_back_if connected number sequence None = connected
takes_back_if connected number sequence (Some session) = set_value (is_at (nat_cmp number)) connected (on_answer session sequence).next

-- what was pushed with this sequence_number leaves the window of the session of a number, if that is connected
abbrev pub takes_back : List (ℕ × Session) → ℕ → ℕ → List (ℕ × Session)
takes_back connected number sequence = takes_back_if connected number sequence (session_at connected number)

-- ---- a session that is lost

-- the session of a number is connected no longer
abbrev pub without_session : List (ℕ × Session) → ℕ → List (ℕ × Session)
without_session connected number = remove_entry (is_at (nat_cmp number)) connected

-- what it had pushed and is given up
abbrev pub given_up_at : List (ℕ × Session) → ℕ → Option (List Pushed)
given_up_at connected number = option_map (λ (session : Session). session.pushed) (session_at connected number)

-- ---- its account

abbrev pub account_of : Option Session → Option (List ℕ)
account_of None = None
account_of (Some session) = session.account

-- the account of the session of a number, if it is connected and bound
abbrev pub account_at : List (ℕ × Session) → ℕ → Option (List ℕ)
account_at connected number = account_of (session_at connected number)
