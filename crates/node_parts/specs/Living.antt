-- Which messages of a node are live (own).
use Rattle.std.specs.Prelude.{◌≡◌, ℕ, ◌<◌, ◌≤◌, Bool, true, false, ◌&&◌, ◌||◌, not, is_some, List, [], ◌∷◌, length, nat_lt, Option, Some, None, if◌then◌else◌}
use Rattle.std.specs.Map.{keys_of}
use Rattle.std.specs.Option.{is_none}
use Rattle.mc_model.specs.message.Submission.{Submission}
use Rattle.mc_model.specs.message.Decree.{Attempt, Decree, Failed, Fate, Final, Kind, Taken, Told}
use Rattle.mc_model.specs.message.Chain.{taken_in}
use Rattle.mc_model.specs.synod.Lists.{In}
use Rattle.node_model.specs.Acceptor.{told_of}
use Rattle.node_model.specs.Answers.{is_asked}
use Rattle.node_model.specs.Starts.{follow}
use Rattle.shelf.specs.Shelved.{value_at, with_value}
use Rattle.synod_acceptor.specs.Records.{record_at}
use Rattle.node_parts.specs.declared.may_begin.MayBegin.{MayBegin}
use Rattle.node_parts.specs.declared.listing.Listing.{Listing}
use Rattle.node_parts.specs.declared.message.Message.{Message as Filed}
use Rattle.node_parts.specs.declared.noted.Noted.{Noted}
use Rattle.node_parts.specs.Messages.{message_of, rested}
use Rattle.node_parts.specs.Reaching.{named_in}
use Rattle.node_parts.specs.Rising.{AreRising}
use Rattle.node_parts.specs.Sleeping.{IsAsleep, reach_noted}

-- nothing may follow a decree: it tells the receipt, or is a final state of which none was asked for (5.2.17)
abbrev pub is_unasked : Final → Option Submission → Bool
is_unasked final None = false
is_unasked final (Some taken) = not (is_asked final taken)

abbrev pub is_last : Option Submission → Kind → Bool
is_last taken (Taken message) = false
is_last taken (Attempt number) = false
is_last taken (Failed error) = false
is_last taken (Fate final error) = is_unasked final taken
is_last taken Told = true

-- a chain ends in such a decree
abbrev pub is_over : List Decree → Bool
is_over [] = false
is_over (newest ∷ older) = is_last (taken_in (newest ∷ older)) newest.kind

abbrev pub is_known_over : Option (List Decree) → Bool
is_known_over None = false
is_known_over (Some chain) = is_over chain

-- such a chain of a message is known, and no vote of the node's own stands beyond that
abbrev pub is_decided : ℕ → Filed → Bool
is_decided id m = is_known_over (message_of id m).known && is_none (follow (message_of id m).known (told_of (record_at m.acceptor) id))

-- A message that is not live: so it is, and no round of it runs.
pub record IsSettled (id : ℕ) (m : Filed) : Type 0 where
  pub decided : is_decided id m ≡ true
  pub rests : m.proposer.round ≡ None

-- ---- the list of those that are live

-- the messages that are kept, for how many more there is room, for how many more there is room to list them, and for whom it is noted until
-- when they sleep
pub record Listed : Type 0 where
  pub entries : List (ℕ × Filed)
  pub room : ℕ
  pub listings : ℕ
  pub noted : Option Noted

-- each message that is kept is listed, or is settled; there is room to list all
pub record AreListed (entries : List (ℕ × Filed)) (live : List ℕ) (room : ℕ) : Type 0 where
  pub rising : AreRising live
  pub kept : (id : ℕ) → In id live → In id (keys_of entries)
  pub others : (id : ℕ) (m : Filed) → value_at entries id ≡ Some m → (In id live → ⊥) → IsSettled id m
  pub fits : length entries ≤ room

-- a message that is not decided is to stay listed
abbrev pub is_live : ℕ → Option Filed → Bool
is_live id None = false
is_live id (Some m) = not (is_decided id m)

abbrev pub is_live_in : List (ℕ × Filed) → ℕ → Bool
is_live_in entries id = is_live id (value_at entries id)

-- so is one that sleeps
abbrev pub is_kept_listed : List (ℕ × Filed) → Listing → Bool
is_kept_listed entries l = is_some l.until || is_live_in entries l.id

-- from a number on all messages that are kept before this one are so; all are, if there is none
abbrev pub IsNextBy : (ℕ → Filed → Type 0) → List (ℕ × Filed) → ℕ → Option ℕ → Type 0
IsNextBy IsSo entries from None = (id : ℕ) (m : Filed) → value_at entries id ≡ Some m → from ≤ id → IsSo id m
IsNextBy IsSo entries from (Some next) =
    In next (keys_of entries)
    × ((from ≤ next) × ((id : ℕ) (m : Filed) → value_at entries id ≡ Some m → from ≤ id → id < next → IsSo id m))

-- they are settled
abbrev pub IsNextLive : List (ℕ × Filed) → ℕ → Option ℕ → Type 0
IsNextLive entries from next = IsNextBy IsSettled entries from next

-- a tick passes them by: they are settled, or if it has the accounts of which it is noted, and a clock, they are asleep by what is noted
abbrev pub IsAsleepBy : Option Noted → ℕ → ℕ → Filed → Type 0
IsAsleepBy None clock id m = Unit {0}
IsAsleepBy (Some noted) clock id m = IsAsleep (record { author = noted.me; clock = clock }) (reach_noted noted) id m

abbrev pub IsPassedBy : Listed → Option ℕ → ℕ → Filed → Type 0
IsPassedBy kept None id m = IsSettled id m
IsPassedBy kept (Some clock) id m = IsAsleepBy kept.noted clock id m

-- and no attempt of it may begin, unless of all
abbrev pub IsPassedIn : Listed → Option ℕ → MayBegin → ℕ → Filed → Type 0
IsPassedIn kept asleep may id m = IsPassedBy kept asleep id m × (In id (named_in may) → ⊥)

-- a message of an id is kept
abbrev pub is_kept_in : List (ℕ × Filed) → ℕ → Bool
is_kept_in entries id = is_some (value_at entries id)

-- the lower of two ids, if there are two
abbrev pub lower_of : Option ℕ → Option ℕ → Option ℕ
lower_of None other = other
lower_of (Some one) None = Some one
lower_of (Some one) (Some other) = if nat_lt other one then Some other else Some one

-- ---- the rounds of those that are awake end

abbrev pub dropped_of : List (ℕ × Filed) → ℕ → Option Filed → List (ℕ × Filed)
dropped_of entries id None = entries
dropped_of entries id (Some m) = with_value entries id (rested m)

abbrev pub dropped_at : List (ℕ × Filed) → ℕ → List (ℕ × Filed)
dropped_at entries id = dropped_of entries id (value_at entries id)

abbrev pub dropped : List ℕ → List (ℕ × Filed) → List (ℕ × Filed)
dropped [] entries = entries
dropped (id ∷ ids) entries = dropped ids (dropped_at entries id)
