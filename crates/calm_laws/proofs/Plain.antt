-- A session of the one node, and the same session of the runner, in whose window a request may wait.
use Rattle.std.proofs.Common.{◌≡◌, ℕ, List, [], Option, Some, None, inl, inr, sym, ap, subst}
use Rattle.std.specs.Ordering.{nat_cmp}
use Rattle.std.specs.Map.{lookup, set_value}
use Rattle.std.specs.BTreeMap.{insert_entry, is_at}
use Rattle.std.proofs.lemmas.Bool.{cases_eq}
use Rattle.node_model.proofs.Places.{elsewhere, here}
use Rattle.sessions.specs.Session.{Session}
use Rattle.sessions.specs.declared.pushed.Pushed.{Pushed}
use Rattle.sessions.specs.declared.request.OpenRequest.{OpenRequest}
use Rattle.sessions.specs.declared.state.SessionState.{SessionState}
use Rattle.sessions.specs.declared.state.SessionState.TheVariants.{Fresh, Transceiver}
use Rattle.script_text.specs.Runner.{session_in, session_or_opened}
use Rattle.calm_laws.proofs.Entries.{set_elsewhere, set_here}

-- ---- one session

abbrev pub state_of : Option (List ℕ) → SessionState
state_of None = Fresh
state_of (Some account) = Transceiver

-- a session of this account, or of none, with these windows
abbrev pub like : Option (List ℕ) → ℕ → List Pushed → ℕ → List OpenRequest → Session
like account version pushed sequence waiting = record {
  state = state_of account;
  account = account;
  interface_version = version;
  requests = waiting;
  pushed = pushed;
  next_sequence = sequence;
}

-- it is bound as a transceiver or not at all, and no request of the ESME waits
pub record IsPlain (session : Session) : Type 0 where
  pub state : session.state ≡ state_of session.account
  pub idle : session.requests ≡ []

-- the same session, in whose window these requests wait
abbrev pub holding : Session → List OpenRequest → Session
holding session waiting = record session { requests = waiting }

pub plain_is : (session : Session) → IsPlain session →
    like session.account session.interface_version session.pushed session.next_sequence [] ≡ session
plain_is session plain = λ i. record {
  state = sym plain.state i;
  account = session.account;
  interface_version = session.interface_version;
  requests = sym plain.idle i;
  pushed = session.pushed;
  next_sequence = session.next_sequence;
}

-- ---- sessions by their numbers

-- one of the sessions is another now
pub record IsBut (number : ℕ) (before now : List (ℕ × Session)) (next : Session) : Type 0 where
  pub it : session_in now number ≡ next
  pub others : (other : ℕ) → (number ≡ other → ⊥) → session_in now other ≡ session_in before other

pub put_but : (number : ℕ) (before : List (ℕ × Session)) (next : Session) → IsBut number before (insert_entry nat_cmp before number next) next
put_but number before next = record {
  it = ap session_or_opened (here number next before);
  others = λ other differ. ap session_or_opened (elsewhere number next other (λ same. differ (sym same)) before);
}

pub set_but : (number : ℕ) (before : List (ℕ × Session)) (old next : Session) → lookup (is_at (nat_cmp number)) before ≡ Some old →
    IsBut number before (set_value (is_at (nat_cmp number)) before next) next
set_but number before old next found = record {
  it = ap session_or_opened (set_here before number old next found);
  others = λ other differ. ap session_or_opened (set_elsewhere before number other next differ);
}

-- what holds of each session holds of each still
pub each_but : (P : ℕ → Session → Type 0) (number : ℕ) (before now : List (ℕ × Session)) (next : Session) → IsBut number before now next →
    P number next → ((other : ℕ) → (number ≡ other → ⊥) → P other (session_in before other)) → (other : ℕ) → P other (session_in now other)
each_but P number before now next but new old other = elim (cases_eq number other) [
  | inl same ↦ subst (λ (n : ℕ). P n (session_in now n)) same (subst (P number) (sym but.it) new)
  | inr differ ↦ subst (P other) (sym (but.others other differ)) (old other differ)
]
