-- Of which messages a node has a record.
use Rattle.std.specs.Prelude.{◌≢◌, ℕ, zero, suc, ◌<◌, Bool, false, ◌==◌, ◌&&◌, ◌||◌, not, is_some, List, filter}
use Rattle.std.specs.Ordering.{nat_cmp}
use Rattle.std.specs.List.Sorted.{IsStrictlySortedBy}
use Rattle.mc_model.specs.synod.Lists.{In}
use Rattle.mc_model.specs.synod.Packet.{slot_at}
use Rattle.mc_model.specs.synod.Acceptor.{Records, SlotRecord, blank}

-- a slot names its place by an octet (own)
abbrev pub named_places : ℕ
named_places = 256

-- there is a record of a message
abbrev pub IsRecorded : Records → ℕ → Type 0
IsRecorded records id = (place : ℕ) × (place < named_places) × (records (slot_at id place) ≢ blank)

-- the messages of which there is one, by ascending ids
pub record AreRecorded (records : Records) (ids : List ℕ) : Type 0 where
  pub ascend : IsStrictlySortedBy nat_cmp ids
  pub each : (id : ℕ) → In id ids → IsRecorded records id
  pub all : (id : ℕ) → IsRecorded records id → In id ids

-- ---- computed

-- nothing was promised and nothing voted
abbrev pub is_blank : SlotRecord → Bool
is_blank r = (r.promised == 0) && not (is_some r.vote)

-- there is a record of a message at a place below this one
unfoldable pub has_record : Records → ℕ → ℕ → Bool
has_record records id zero = false
has_record records id (suc place) = not (is_blank (records (slot_at id place))) || has_record records id place

-- those of these messages of which there is one
abbrev pub recorded_in : Records → List ℕ → List ℕ
recorded_in records ids = filter (λ id. has_record records id named_places) ids
