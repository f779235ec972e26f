-- The records of an acceptor, each with its slot.
use Rattle.std.specs.Prelude.{◌≡◌, ℕ, ◌<◌, ◌≤◌, List, [], ◌∷◌, ◌++◌, map, slice_get, Option, Some, None, if◌then◌else◌}
use Rattle.mc_model.specs.synod.Lists.{In}
use Rattle.mc_model.specs.synod.OneSlot.{Vote}
use Rattle.mc_model.specs.synod.Packet.{Slot, TopVote, same_slot, slot_at}
use Rattle.mc_model.specs.synod.Acceptor.{SlotRecord, blank}
use Rattle.node_model.specs.Acceptor.{ArePlaced}
use Rattle.synod_acceptor.specs.Votes.{Record, record_of, report_of, slot_in, slot_recorded, slot_reported}
use Rattle.synod_acceptor.specs.declared.vote.Report.{Report}
use Rattle.synod_acceptor.specs.declared.vote.Vote.{Vote as Cast}

abbrev pub entry_of : Record → Slot × SlotRecord
entry_of r = (slot_recorded r, record_of r)

abbrev pub entries_of : List Record → List (Slot × SlotRecord)
entries_of records = map entry_of records

-- the record of a slot, if there is one
abbrev pub held_at : List (Slot × SlotRecord) → Slot → Option SlotRecord
held_at [] slot = None
held_at (first ∷ others) slot = if same_slot first.0 slot then Some first.1 else held_at others slot

abbrev pub or_blank : Option SlotRecord → SlotRecord
or_blank None = blank
or_blank (Some r) = r

-- and if there is none, nothing was promised and nothing voted
abbrev pub record_at : List (Slot × SlotRecord) → Slot → SlotRecord
record_at entries slot = or_blank (held_at entries slot)

-- no slot has two records
abbrev pub AreApart : List (Slot × SlotRecord) → Type 0
AreApart [] = Unit {0}
AreApart (first ∷ others) = (held_at others first.0 ≡ None) × AreApart others

-- the records of an acceptor: one of a slot, and each vote at one of the places of a chain
pub record AreRecords (entries : List (Slot × SlotRecord)) : Type 0 where
  pub apart : AreApart entries
  pub placed : ArePlaced (record_at entries)

-- where the record of a slot stands
pub record IsFoundAt (entries : List (Slot × SlotRecord)) (slot : Slot) (place : ℕ) : Type 0 where
  pub entry : Slot × SlotRecord
  pub stands : slice_get entries place ≡ Some entry
  pub is_of : entry.0 ≡ slot

abbrev pub IsPlace : List (Slot × SlotRecord) → Slot → Option ℕ → Type 0
IsPlace entries slot None = held_at entries slot ≡ None
IsPlace entries slot (Some place) = IsFoundAt entries slot place

-- of the records of a message the vote at the highest place
pub record IsTopEntry (entries : List (Slot × SlotRecord)) (id : ℕ) (told : TopVote) : Type 0 where
  pub about : told.id ≡ id
  pub stands : (promised : ℕ) × In (slot_at id told.place, record { promised = promised; vote = Some told.vote }) entries
  pub highest : (place promised : ℕ) (vote : Vote) →
      In (slot_at id place, record { promised = promised; vote = Some vote }) entries → place ≤ told.place

abbrev pub IsTopOf : List (Slot × SlotRecord) → ℕ → Option TopVote → Type 0
IsTopOf entries id None = (place promised : ℕ) (vote : Vote) →
    In (slot_at id place, record { promised = promised; vote = Some vote }) entries → ⊥
IsTopOf entries id (Some told) = IsTopEntry entries id told

abbrev pub IsAbove : Cast → Option Cast → Type 0
IsAbove vote None = Unit {0}
IsAbove vote (Some other) = (slot_in other).place < (slot_in vote).place

-- one more record, with this report, leads from the highest vote so far to this one
pub record Passes (report : Report) (id : ℕ) (before after : Option TopVote) : Type 0 where
  pub leads : (entries : List (Slot × SlotRecord)) (promised : ℕ) → IsTopOf entries id before →
      IsTopOf (entries ++ (slot_reported report, record { promised = promised; vote = report_of report }) ∷ []) id after
