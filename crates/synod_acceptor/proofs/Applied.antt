-- Records once a change is made in them.
use Rattle.std.proofs.Common.{◌≡◌, ◌<◌, ℕ, zero, suc, Bool, cond, List, [], ◌∷◌, ◌++◌, length, set, slice_get, Some, None, refl, sym, ap, subst, ◌∙◌}
use Rattle.std.proofs.Common.{inl, inr, arith}
use Rattle.std.specs.Prelude.{IsSome}
use Rattle.std.specs.Vec.{vec_capacity}
use Rattle.std.proofs.lemmas.Bool.{true≢false}
use Rattle.std.proofs.lemmas.List.{length-map, map-append, map-set}
use Rattle.mc_model.specs.synod.Packet.{Slot}
use Rattle.mc_model.specs.synod.Acceptor.{SlotRecord, with_record}
use Rattle.synod_acceptor.specs.Votes.{Record, record_of, slot_recorded}
use Rattle.synod_acceptor.specs.Records.{AreApart, IsFoundAt, entries_of, entry_of, held_at, record_at}
use Rattle.synod_acceptor.specs.Applied.{HasPlace, with_entry}
use Rattle.synod_acceptor.specs.declared.room.RecordRoom.{RecordRoom}
use Rattle.synod_acceptor.proofs.Slots.{by_first, found_held, held_with, is_other, is_same, none_before, only, record_with, with_first, with_later}

-- ---- what is held then

module _ (slot : Slot) (new : SlotRecord) where
  -- the first entry, or those behind it
  at_first : (first : Slot × SlotRecord) (others : List (Slot × SlotRecord)) → first.0 ≡ slot →
      with_entry (first ∷ others) (slot, new) ≡ (slot, new) ∷ others
  at_first first others is =
      ap (λ (b : Bool). cond b ((slot, new) ∷ others) (first ∷ with_entry others (slot, new))) (is_same first.0 slot is)

  behind_first : (first : Slot × SlotRecord) (others : List (Slot × SlotRecord)) → (first.0 ≡ slot → ⊥) →
      with_entry (first ∷ others) (slot, new) ≡ first ∷ with_entry others (slot, new)
  behind_first first others differs =
      ap (λ (b : Bool). cond b ((slot, new) ∷ others) (first ∷ with_entry others (slot, new))) (is_other first.0 slot differs)

  held_then : (entries : List (Slot × SlotRecord)) (other : Slot) → held_at (with_entry entries (slot, new)) other ≡ held_with entries slot new other
  held_then [] other = only slot new other
  held_then (first ∷ others) other = elim (by_first first slot) [
    | inl is ↦ ap (λ (es : List (Slot × SlotRecord)). held_at es other) (at_first first others is) ∙ with_first first others slot new other is
    | inr differs ↦
        ap (λ (es : List (Slot × SlotRecord)). held_at es other) (behind_first first others differs)
        ∙ with_later first others (with_entry others (slot, new)) slot new other differs (held_then others other)
  ]

  pub record_then : (entries : List (Slot × SlotRecord)) (other : Slot) →
      record_at (with_entry entries (slot, new)) other ≡ with_record (record_at entries) slot new other
  record_then entries other = record_with entries (with_entry entries (slot, new)) slot new other (held_then entries other)

  -- ---- the entries as they stand

  entry_set : (entries : List (Slot × SlotRecord)) (place : ℕ) (entry : Slot × SlotRecord) → AreApart entries → slice_get entries place ≡ Some entry →
      entry.0 ≡ slot → set entries place (slot, new) ≡ with_entry entries (slot, new)
  entry_set [] place entry apart stands is = absurd (cc)
  entry_set (first ∷ others) zero entry apart stands is =
      let same : first ≡ entry = cc in
      sym (at_first first others (ap (λ (e : Slot × SlotRecord). e.0) same ∙ is))
  entry_set (first ∷ others) (suc place) entry apart stands is = elim (by_first first slot) [
    | inl same ↦
        let held = subst (λ (s : Slot). held_at others s ≡ None) same apart.0 in
        let found = found_held others slot place entry apart.1 stands is in
        absurd (cc)
    | inr differs ↦
        ap (λ (es : List (Slot × SlotRecord)). first ∷ es) (entry_set others place entry apart.1 stands is) ∙ sym (behind_first first others differs)
  ]

  entry_behind : (entries : List (Slot × SlotRecord)) → held_at entries slot ≡ None → entries ++ (slot, new) ∷ [] ≡ with_entry entries (slot, new)
  entry_behind [] none = refl
  entry_behind (first ∷ others) none =
      let parts = none_before first others slot none in
      ap (λ (es : List (Slot × SlotRecord)). first ∷ es) (entry_behind others parts.1) ∙ sym (behind_first first others parts.0)

-- ---- the records as they stand

pub applied_there : (records : List Record) (place : ℕ) (kept : Record) → AreApart (entries_of records) →
    IsFoundAt (entries_of records) (slot_recorded kept) place →
    entries_of (set records place kept) ≡ with_entry (entries_of records) (entry_of kept)
applied_there records place kept apart found =
    map-set entry_of records place kept
    ∙ entry_set (slot_recorded kept) (record_of kept) (entries_of records) place found.entry apart found.stands found.is_of

pub applied_behind : (records : List Record) (kept : Record) → held_at (entries_of records) (slot_recorded kept) ≡ None →
    entries_of (records ++ kept ∷ []) ≡ with_entry (entries_of records) (entry_of kept)
applied_behind records kept none =
    map-append entry_of records (kept ∷ []) ∙ entry_behind (slot_recorded kept) (record_of kept) (entries_of records) none

-- there is room, since the slot has no record
pub room_behind : (records : List Record) (slot : Slot) (room : RecordRoom) → HasPlace (entries_of records) slot room → held_at (entries_of records) slot ≡ None →
    length records < vec_capacity room.records
room_behind records slot room (inl some) none = absurd (true≢false (sym (subst IsSome none some)))
room_behind records slot room (inr more) none = let count = length-map records entry_of in omega (arith, more, count)

-- there is room, since it has one
pub found_place : (records : List Record) (slot : Slot) (place : ℕ) (room : RecordRoom) → AreApart (entries_of records) →
    IsFoundAt (entries_of records) slot place → HasPlace (entries_of records) slot room
found_place records slot place room apart found =
    inl (subst IsSome (sym (found_held (entries_of records) slot place found.entry apart found.stands found.is_of)) refl)
