-- A session, as contracts see it.
use Rattle.std.specs.Prelude.{◌≡◌, ℕ, ◌+◌, ◌≤◌, nat_le, false, List, [], length, Option, is_some, if◌then◌else◌}
use Rattle.sessions.specs.declared.state.SessionState.{SessionState}
use Rattle.sessions.specs.declared.request.OpenRequest.{OpenRequest}
use Rattle.sessions.specs.declared.pushed.Pushed.{Pushed}
use Rattle.sessions.specs.States.{is_bound, may_ask, may_receive}

-- Its state, the account by which it is bound, the interface_version of its bind, the requests of the ESME and those of the
-- centre that wait, the oldest first, and the sequence_number of the centre's next request.
pub record Session : Type 0 where
  pub state : SessionState
  pub account : Option (List ℕ)
  pub interface_version : ℕ
  pub requests : List OpenRequest
  pub pushed : List Pushed
  pub next_sequence : ℕ

-- What each session is: it has an account exactly while it is bound, ten requests wait at most each way, and only where the
-- state allows them; and sequence_numbers go from 1 to 0x7FFFFFFF (SMPP 3.4, 5.1.4).
pub record IsSession (session : Session) : Type 0 where
  pub account : is_some session.account ≡ is_bound session.state
  pub requests : length session.requests ≤ 10
  pub pushed : length session.pushed ≤ 10
  pub asks : may_ask session.state ≡ false → session.requests ≡ []
  pub receives : may_receive session.state ≡ false → session.pushed ≡ []
  pub first : 1 ≤ session.next_sequence
  pub last : session.next_sequence ≤ 0x7FFF_FFFF

-- the sequence_number after this one: after the last the first comes again
abbrev pub sequence_after : ℕ → ℕ
sequence_after sequence = if nat_le 0x7FFF_FFFF sequence then 1 else sequence + 1
