-- Which of the messages that are live are awake, and before when no other one wakes (own).
use Rattle.std.specs.Prelude.{◌≡◌, ℕ, ◌≤◌, Bool, ◌==◌, min, filter, List, [], ◌∷◌, map, Option, Some, None, if◌then◌else◌}
use Rattle.std.specs.Option.{is_none}
use Rattle.mc_model.specs.synod.Lists.{In}
use Rattle.node_parts.specs.declared.listing.Listing.{Listing}
use Rattle.node_parts.specs.Rising.{AreRising}
use Rattle.node_parts.specs.Sleeping.{ids_of}

-- the ids of those on the list that are awake, ascending, and a moment before which no other one wakes
pub record AreAwake (until : ℕ) (live : List Listing) (ids : List ℕ) : Type 0 where
  pub rising : AreRising ids
  pub listed : (id : ℕ) → In id ids → In id (ids_of live)
  pub each : (l : Listing) → In l live → l.until ≡ None → In l.id ids
  pub others : (l : Listing) (moment : ℕ) → In l live → l.until ≡ Some moment → until ≤ moment

abbrev pub is_awake : Listing → Bool
is_awake l = is_none l.until

abbrev pub awake_in : List Listing → List ℕ
awake_in live = ids_of (filter is_awake live)

-- until when the message of an id sleeps
abbrev pub until_at : List Listing → ℕ → Option ℕ
until_at [] id = None
until_at (l ∷ ls) id = if l.id == id then l.until else until_at ls id

-- the soonest moment until which one of a list sleeps, and of these ids, if it is before another
abbrev pub sooner : ℕ → Option ℕ → ℕ
sooner until None = until
sooner until (Some moment) = min until moment

abbrev pub soonest_in : List Listing → ℕ → ℕ
soonest_in [] until = until
soonest_in (l ∷ ls) until = soonest_in ls (sooner until l.until)

abbrev pub soonest_at : List Listing → List ℕ → ℕ → ℕ
soonest_at live [] until = until
soonest_at live (id ∷ ids) until = soonest_at live ids (sooner until (until_at live id))

-- those of these ids are looked at
abbrev pub looked_at : (Listing → Listing) → ℕ → List Listing → List Listing
looked_at look id live = map (λ l. if l.id == id then look l else l) live

abbrev pub all_looked_at : (Listing → Listing) → List ℕ → List Listing → List Listing
all_looked_at look [] live = live
all_looked_at look (id ∷ ids) live = all_looked_at look ids (looked_at look id live)
