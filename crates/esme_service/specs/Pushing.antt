-- A deliver_sm that is pushed over one of the sessions.
use Rattle.std.specs.Prelude.{◌≡◌, ℕ, Bool, List, Option, Some, None}
use Rattle.sessions.specs.Session.{Session}
use Rattle.sessions.specs.declared.pushed.Delivery.{Delivery}
use Rattle.esme_service.specs.Pushes.{knows_optional, session_at, target_in, with_push}
use Rattle.esme_service.specs.declared.pushed_on.PushedOn.{PushedOn}

-- It goes out next on the session that takes it for this account, with a text that is an optional parameter or without, and waits there for its answer.
pub record GoesOut (before : List (ℕ × Session)) (long : Bool) (target : List ℕ) (now : ℕ) (delivery : Delivery) (pushed : PushedOn) (after : List (ℕ × Session))
    : Type 0 where
  pub session : Session
  pub takes : target_in before long target ≡ Some pushed.number
  pub stands : session_at before pushed.number ≡ Some session
  pub sequence : pushed.sequence ≡ session.next_sequence
  pub optional : pushed.knows_optional ≡ knows_optional session
  pub left : after ≡ with_push before pushed.number now delivery

-- Or no session takes it, and nothing changed.
abbrev pub IsPushed : List (ℕ × Session) → Bool → List ℕ → ℕ → Delivery → List (ℕ × Session) → Option PushedOn → Type 0
IsPushed before long target now delivery after None = (target_in before long target ≡ None) × (after ≡ before)
IsPushed before long target now delivery after (Some pushed) = GoesOut before long target now delivery pushed after
