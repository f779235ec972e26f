-- Until when messages sleep, so that a tick need not look at them (own).
use Rattle.std.specs.Prelude.{◌≡◌, ℕ, Bool, true, ◌||◌, is_some, nat_le, List, [], ◌∷◌, length, map, Option, Some, None, if◌then◌else◌}
use Rattle.mc_model.specs.message.Submission.{Submission}
use Rattle.mc_model.specs.message.Decree.{Decree}
use Rattle.mc_model.specs.message.Chain.{taken_in}
use Rattle.mc_model.specs.synod.Lists.{In}
use Rattle.mc_model.specs.node.Reach.{Reach}
use Rattle.mc_model.specs.node.Setup.{Setup}
use Rattle.node_model.specs.Acceptor.{told_of}
use Rattle.node_model.specs.Kept.{Held, Kept}
use Rattle.node_model.specs.Rules.{first_rule}
use Rattle.node_model.specs.Starts.{follow}
use Rattle.waiting_requests.specs.Numbers.{ids_in}
use Rattle.fate_chain.specs.declared.decree.Author.{Author}
use Rattle.delivery.specs.Targets.{is_up}
use Rattle.tick_rules.specs.declared.attempted.Attempted.{Attempted}
use Rattle.tick_rules.specs.declared.standpoint.Standpoint.{Standpoint}
use Rattle.tick_rules.specs.Reaching.{reached_by}
use Rattle.tick_rules.specs.Waking.{last_moment, until_behind}
use Rattle.shelf.specs.Shelved.{value_at}
use Rattle.synod_acceptor.specs.Records.{record_at}
use Rattle.node_parts.specs.declared.attempts.Attempts.{Attempts}
use Rattle.node_parts.specs.declared.listing.Listing.{Listing}
use Rattle.node_parts.specs.declared.message.Message.{Message as Filed}
use Rattle.node_parts.specs.declared.noted.Noted.{Noted}
use Rattle.node_parts.specs.Attempting.{attempted_in}
use Rattle.node_parts.specs.Messages.{message_of}
use Rattle.node_parts.specs.Reaching.{reach_with}
use Rattle.node_parts.specs.Turning.{IsAtRest}

-- no rule of a tick at this standpoint fits a message, with these accounts, while no request asks of it
pub record IsAsleep (s : Standpoint) (reach : Reach) (id : ℕ) (m : Filed) : Type 0 where
  pub unruled : (setup : Setup) (k : Kept) (held : List Held) → IsAtRest setup k held id m s → (In id (ids_in held) → ⊥) → first_rule setup k reach id ≡ None

-- ---- how long a message sleeps

abbrev pub sleep_taken : Author → Reach → ℕ → Attempted → Decree → List Decree → Option Submission → Option ℕ
sleep_taken me reach id a newest older None = Some last_moment
sleep_taken me reach id a newest older (Some taken) = until_behind me a (reached_by reach id taken) newest older taken

abbrev pub sleep_behind : Author → Reach → ℕ → Attempts → Option (List Decree) → Option ℕ
sleep_behind me reach id attempts None = Some last_moment
sleep_behind me reach id attempts (Some []) = Some last_moment
sleep_behind me reach id attempts (Some (newest ∷ older)) =
    sleep_taken me reach id (attempted_in attempts (length older)) newest older (taken_in (newest ∷ older))

-- not at all if a round of it runs, or if a vote of the node's own stands beyond what is known; else by what is known
abbrev pub sleep_of : Author → Reach → ℕ → Filed → Option ℕ
sleep_of me reach id m =
    if is_some m.proposer.round || is_some (follow (message_of id m).known (told_of (record_at m.acceptor) id))
    then None
    else sleep_behind me reach id m.attempts (message_of id m).known

-- ---- what is noted of those that are live

abbrev pub ids_of : List Listing → List ℕ
ids_of live = map (λ l. l.id) live

abbrev pub is_past : ℕ → Option ℕ → Bool
is_past clock None = true
is_past clock (Some until) = nat_le until clock

abbrev pub is_due : ℕ → Listing → Bool
is_due clock l = is_past clock l.until

-- one of them is due
pub record IsDueIn (clock : ℕ) (live : List Listing) (id : ℕ) : Type 0 where
  pub listing : Listing
  pub among : In listing live
  pub named : listing.id ≡ id
  pub due : is_due clock listing ≡ true

-- it is noted for this author and these accounts, and for attempts that may begin of all messages or of none
abbrev pub IsNoted : Option Noted → Author → List (List ℕ) → Bool → Type 0
IsNoted None me up tries = ⊥
IsNoted (Some noted) me up tries = (noted.me ≡ me) × ((noted.up.items ≡ up) × (noted.tries ≡ tries))

abbrev pub reach_noted : Noted → Reach
reach_noted noted = reach_with (is_up noted.up.items) noted.tries

-- how long a message sleeps is noted of it, or it is awake
abbrev pub IsNotedOf : Option Noted → ℕ → Filed → Option ℕ → Type 0
IsNotedOf noted id m None = Unit {0}
IsNotedOf None id m (Some until) = ⊥
IsNotedOf (Some noted) id m (Some until) = sleep_of noted.me (reach_noted noted) id m ≡ Some until

pub record AreNoted (noted : Option Noted) (entries : List (ℕ × Filed)) (live : List Listing) : Type 0 where
  pub each : (l : Listing) (m : Filed) → In l live → value_at entries l.id ≡ Some m → IsNotedOf noted l.id m l.until

-- what is noted of a message once it is looked at, and of each that is due at a clock, or of all
abbrev pub noted_of : Author → Reach → ℕ → Option Filed → Option ℕ
noted_of me reach id None = None
noted_of me reach id (Some m) = sleep_of me reach id m

abbrev pub is_looked_at : Option ℕ → Listing → Bool
is_looked_at None l = true
is_looked_at (Some clock) l = is_due clock l

abbrev pub dozed : List (ℕ × Filed) → Author → Reach → Option ℕ → Listing → Listing
dozed entries me reach clock l = record l { until = if is_looked_at clock l then noted_of me reach l.id (value_at entries l.id) else l.until }
