-- What the centre pushes to ESMEs: over which session a deliver_sm goes, and what it brings (SMPP 3.4, 4.6.1; the sessions: own).
use Rattle.std.specs.Prelude.{ℕ, Bool, true, false, ◌&&◌, ◌||◌, not, nat_le, List, [], filter, find, map, Option, Some, None, is_none, if◌then◌else◌}
use Rattle.std.specs.List.{filter_map, flat_map, range_with_len}
use Rattle.std.specs.Map.{lookup, set_value}
use Rattle.std.specs.Ordering.{nat_cmp}
use Rattle.std.specs.BTreeMap.{is_at}
use Rattle.std.specs.Str.{bytes_eq}
use Rattle.mc_model.specs.message.Submission.{Submission}
use Rattle.pdu_bodies.specs.declared.pdu.Body.TheVariants.{DeliverSm}
use Rattle.pdu_bodies.specs.declared.pdu.Message.{Message}
use Rattle.pdu_bodies.specs.declared.pdu.Pdu.{Pdu}
use Rattle.delivery.specs.Deliveries.{delivered_message}
use Rattle.sessions.specs.Session.{Session}
use Rattle.sessions.specs.States.{may_receive}
use Rattle.sessions.specs.Steps.{on_push, on_tick, push_refusal}
use Rattle.sessions.specs.Windows.{is_overdue}
use Rattle.sessions.specs.declared.pushed.Delivery.{Delivery}
use Rattle.sessions.specs.declared.pushed.Pushed.{Pushed}
pub use Rattle.fate_chain.specs.Content.{is_long}

-- ---- the sessions that are connected, by their numbers

unfoldable pub session_numbers : List ℕ
session_numbers = range_with_len 1 99

abbrev pub session_at : List (ℕ × Session) → ℕ → Option Session
session_at connected number = lookup (is_at (nat_cmp number)) connected

-- ---- which accounts have one that may receive

abbrev pub receiver_of : Option Session → Option (List ℕ)
receiver_of None = None
receiver_of (Some session) = if may_receive session.state then session.account else None

-- the account of each session that may receive
unfoldable pub accounts_up : List (ℕ × Session) → List (List ℕ)
accounts_up connected = filter_map (λ number. receiver_of (session_at connected number)) session_numbers

-- ---- over which session a deliver_sm goes

-- interface_versions below 3.4 know no optional parameters (5.2.4)
abbrev pub knows_optional : Session → Bool
knows_optional session = nat_le 0x34 session.interface_version

abbrev pub is_of : List ℕ → Option (List ℕ) → Bool
is_of target None = false
is_of target (Some account) = bytes_eq account target

-- The session is of the account, may receive, and has room. For a text that is an optional parameter it has to know these.
abbrev pub takes_for : Bool → List ℕ → Option Session → Bool
takes_for long target None = false
takes_for long target (Some session) = is_none (push_refusal session) && (is_of target session.account && (not long || knows_optional session))

-- the lowest number of such a session
unfoldable pub target_in : List (ℕ × Session) → Bool → List ℕ → Option ℕ
target_in connected long target = find (λ number. takes_for long target (session_at connected number)) session_numbers

-- ---- what it brings

abbrev pub with_optional : Bool → Message → Message
with_optional true message = message
with_optional false message = record message { tlvs = [] }

-- a deliver_sm with a sequence_number, of this message, for an ESME that knows optional parameters or does not
abbrev pub deliver_sm : ℕ → Bool → Message → Pdu
deliver_sm sequence optional message = record { status = 0; sequence = sequence; body = DeliverSm (with_optional optional message) }

-- that of an attempt that goes out next on a session, of what was taken
abbrev pub delivery_on : Session → Submission → Pdu
delivery_on session taken = deliver_sm session.next_sequence (knows_optional session) (delivered_message taken)

-- it is pushed at a moment, and waits for its answer
abbrev pub pushed_on : List (ℕ × Session) → ℕ → ℕ → Delivery → Option Session → List (ℕ × Session)
pushed_on connected number now delivery None = connected
pushed_on connected number now delivery (Some session) = set_value (is_at (nat_cmp number)) connected (on_push session now delivery)

abbrev pub with_push : List (ℕ × Session) → ℕ → ℕ → Delivery → List (ℕ × Session)
with_push connected number now delivery = pushed_on connected number now delivery (session_at connected number)

-- ---- what waits too long

-- by session, and on each in the order of pushing
abbrev pub overdue_in : List (ℕ × Session) → ℕ → List Pushed
overdue_in connected now = flat_map (λ entry. filter (is_overdue now) entry.1.pushed) connected

-- the sessions when it has left their windows
abbrev pub timely_in : List (ℕ × Session) → ℕ → List (ℕ × Session)
timely_in connected now = map (λ entry. (entry.0, on_tick entry.1 now)) connected
