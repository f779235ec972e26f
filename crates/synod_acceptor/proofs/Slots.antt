-- The record of a slot in a list of records.
use Rattle.std.proofs.Common.{◌≡◌, ◌⊎◌, ℕ, zero, suc, ◌+◌, ◌<◌, Bool, true, false, cond, List, [], ◌∷◌, ◌++◌, length, get_or, take, set}
use Rattle.std.proofs.Common.{slice_get, option_map, Option, Some, None, refl, sym, ap, subst, ◌∙◌, inl, inr, arith, append_assoc}
use Rattle.std.specs.Prelude.{if◌then◌else◌}
use Rattle.std.proofs.lemmas.List.{length-map, map-append, map-set, take_more}
use Rattle.std.proofs.lemmas.Option.{slice_get-map, slice_get_read, slice_get_within}
use Rattle.std.proofs.lemmas.Bool.{and_from, cases_Bool, eq-eqb, true≢false}
use Rattle.mc_model.specs.synod.Packet.{Slot, same_slot}
use Rattle.mc_model.specs.synod.Acceptor.{SlotRecord, with_record}
use Rattle.mc_parts.proofs.Membership.{slots_same}
use Rattle.synod_acceptor.specs.Votes.{Record, record_of, slot_recorded}
use Rattle.synod_acceptor.specs.Records.{entries_of, entry_of, held_at, or_blank, record_at, AreApart, IsFoundAt, IsPlace}

pub is_same : (a b : Slot) → a ≡ b → same_slot a b ≡ true
is_same a b same = and_from _ _ (eq-eqb a.id b.id (ap (λ (s : Slot). s.id) same)) (eq-eqb a.place b.place (ap (λ (s : Slot). s.place) same))

pub is_other : (a b : Slot) → (a ≡ b → ⊥) → same_slot a b ≡ false
is_other a b other = elim (cases_Bool (same_slot a b)) [ inl same ↦ absurd (other (slots_same a b same)) | inr differs ↦ differs ]

-- ---- the first entry and the others

pub held_first : (first : Slot × SlotRecord) (others : List (Slot × SlotRecord)) (slot : Slot) → first.0 ≡ slot → held_at (first ∷ others) slot ≡ Some first.1
held_first first others slot same = ap (λ (b : Bool). cond b (Some first.1) (held_at others slot)) (is_same first.0 slot same)

pub held_later : (first : Slot × SlotRecord) (others : List (Slot × SlotRecord)) (slot : Slot) → (first.0 ≡ slot → ⊥) →
    held_at (first ∷ others) slot ≡ held_at others slot
held_later first others slot other = ap (λ (b : Bool). cond b (Some first.1) (held_at others slot)) (is_other first.0 slot other)

-- where the slot of the first entry stands, or does not
pub by_first : (first : Slot × SlotRecord) (slot : Slot) → (first.0 ≡ slot) ⊎ (first.0 ≡ slot → ⊥)
by_first first slot = elim (cases_Bool (same_slot first.0 slot)) [
  | inl same ↦ inl (slots_same first.0 slot same)
  | inr differs ↦ inr (λ same. true≢false (sym (is_same first.0 slot same) ∙ differs))
]

-- ---- an entry that was found

pub found_held : (entries : List (Slot × SlotRecord)) (slot : Slot) (place : ℕ) (entry : Slot × SlotRecord) → AreApart entries →
    slice_get entries place ≡ Some entry → entry.0 ≡ slot →
    held_at entries slot ≡ Some entry.1
found_held [] slot place entry apart stands is = absurd (cc)
found_held (first ∷ others) slot zero entry apart stands is =
    let same : first ≡ entry = cc in
    held_first first others slot (ap (λ (e : Slot × SlotRecord). e.0) same ∙ is) ∙ ap (λ (e : Slot × SlotRecord). Some e.1) same
found_held (first ∷ others) slot (suc place) entry apart stands is =
    let behind = found_held others slot place entry apart.1 stands is in
    held_later first others slot (λ same. let none : held_at others slot ≡ None = subst (λ (s : Slot). held_at others s ≡ None) same apart.0 in cc) ∙ behind

-- ---- another record in its place

-- what is held with a new record in a slot
pub held_with : List (Slot × SlotRecord) → Slot → SlotRecord → Slot → Option SlotRecord
held_with entries slot new other = if same_slot other slot then Some new else held_at entries other

pub with_first : (first : Slot × SlotRecord) (others : List (Slot × SlotRecord)) (slot : Slot) (new : SlotRecord) (other : Slot) →
    first.0 ≡ slot →
    held_at ((slot, new) ∷ others) other ≡ held_with (first ∷ others) slot new other
unfolding held_with
with_first first others slot new other same = elim (by_first (slot, new) other) [
  | inl is ↦ held_first (slot, new) others other is ∙ sym (ap (λ (b : Bool). cond b (Some new) (held_at (first ∷ others) other)) (is_same other slot (sym is)))
  | inr differs ↦
      held_later (slot, new) others other differs
      ∙ sym (held_later first others other (λ is. differs (sym same ∙ is)))
      ∙ sym (ap (λ (b : Bool). cond b (Some new) (held_at (first ∷ others) other)) (is_other other slot (λ is. differs (sym is))))
]

pub with_later : (first : Slot × SlotRecord) (others changed : List (Slot × SlotRecord)) (slot : Slot) (new : SlotRecord) (other : Slot) →
    (first.0 ≡ slot → ⊥) → held_at changed other ≡ held_with others slot new other →
    held_at (first ∷ changed) other ≡ held_with (first ∷ others) slot new other
unfolding held_with
with_later first others changed slot new other apart behind = elim (by_first first other) [
  | inl is ↦
      held_first first changed other is
      ∙ sym (held_first first others other is)
      ∙ sym (ap (λ (b : Bool). cond b (Some new) (held_at (first ∷ others) other)) (is_other other slot (λ same. apart (is ∙ same))))
  | inr differs ↦
      held_later first changed other differs ∙ behind
      ∙ ap (λ (o : Option SlotRecord). if same_slot other slot then Some new else o) (sym (held_later first others other differs))
]

pub held-set : (entries : List (Slot × SlotRecord)) (slot : Slot) (place : ℕ) (entry : Slot × SlotRecord) (new : SlotRecord) →
    AreApart entries → slice_get entries place ≡ Some entry → entry.0 ≡ slot → (other : Slot) →
    held_at (set entries place (slot, new)) other ≡ held_with entries slot new other
held-set [] slot place entry new apart stands is other = absurd (cc)
held-set (first ∷ others) slot zero entry new apart stands is other =
    let same : first ≡ entry = cc in
    with_first first others slot new other (ap (λ (e : Slot × SlotRecord). e.0) same ∙ is)
held-set (first ∷ others) slot (suc place) entry new apart stands is other =
    let held = found_held others slot place entry apart.1 stands is in
    with_later first others (set others place (slot, new)) slot new other
    (λ same. let none : held_at others slot ≡ None = subst (λ (s : Slot). held_at others s ≡ None) same apart.0 in cc)
    (held-set others slot place entry new apart.1 stands is other)

-- ---- a record behind the others

pub only : (slot : Slot) (new : SlotRecord) (other : Slot) → held_at ((slot, new) ∷ []) other ≡ held_with [] slot new other
unfolding held_with
only slot new other = elim (by_first (slot, new) other) [
  | inl is ↦ held_first (slot, new) [] other is ∙ sym (ap (λ (b : Bool). cond b (Some new) None) (is_same other slot (sym is)))
  | inr differs ↦ held_later (slot, new) [] other differs ∙ sym (ap (λ (b : Bool). cond b (Some new) None) (is_other other slot (λ is. differs (sym is))))
]

pub none_before : (first : Slot × SlotRecord) (others : List (Slot × SlotRecord)) (slot : Slot) → held_at (first ∷ others) slot ≡ None →
    (first.0 ≡ slot → ⊥) × (held_at others slot ≡ None)
none_before first others slot none = elim (by_first first slot) [
  | inl is ↦ let some = held_first first others slot is in absurd (cc)
  | inr differs ↦ (differs, sym (held_later first others slot differs) ∙ none)
]

pub held-push : (entries : List (Slot × SlotRecord)) (slot : Slot) (new : SlotRecord) → held_at entries slot ≡ None → (other : Slot) →
    held_at (entries ++ (slot, new) ∷ []) other ≡ held_with entries slot new other
held-push [] slot new none other = only slot new other
held-push (first ∷ others) slot new none other =
    let parts = none_before first others slot none in
    with_later first others (others ++ (slot, new) ∷ []) slot new other parts.0 (held-push others slot new parts.1 other)

-- ---- a search from the front

none_more : (entries : List (Slot × SlotRecord)) (entry : Slot × SlotRecord) (slot : Slot) → held_at entries slot ≡ None →
    (entry.0 ≡ slot → ⊥) →
    held_at (entries ++ entry ∷ []) slot ≡ None
none_more [] entry slot none differs = held_later entry [] slot differs
none_more (first ∷ others) entry slot none differs =
    let parts = none_before first others slot none in
    held_later first (others ++ entry ∷ []) slot parts.0 ∙ none_more others entry slot parts.1 differs

-- one more record is not of the slot
pub none_at_next : (records : List Record) (place : ℕ) (kept : Record) (slot : Slot) → place < length records →
    kept ≡ get_or records place kept → held_at (entries_of (take place records)) slot ≡ None → (slot_recorded kept ≡ slot → ⊥) →
    held_at (entries_of (take (place + 1) records)) slot ≡ None
none_at_next records place kept slot below is none differs =
    let more : take (place + 1) records ≡ take place records ++ kept ∷ [] = take_more records place kept below ∙ ap
    (λ (r : Record). take place records ++ r ∷ []) (sym is) in
    ap (λ (rs : List Record). held_at (entries_of rs) slot) more
    ∙ ap (λ (es : List (Slot × SlotRecord)). held_at es slot) (map-append entry_of (take place records) (kept ∷ []))
    ∙ none_more (entries_of (take place records)) (entry_of kept) slot none differs

-- one that is of it was found
pub found_here : (records : List Record) (place : ℕ) (kept : Record) (slot : Slot) → place < length records →
    kept ≡ get_or records place kept → slot_recorded kept ≡ slot →
    IsFoundAt (entries_of records) slot place
found_here records place kept slot below is same = record {
  entry = entry_of kept;
  stands = slice_get-map entry_of records place ∙ ap (λ o. option_map entry_of o) (slice_get_read records (length records) place kept refl below is);
  is_of = same;
}

-- what stands where a record was found is the record that is held
pub held_here : (records : List Record) (place : ℕ) (kept : Record) (slot : Slot) → AreApart (entries_of records) →
    IsFoundAt (entries_of records) slot place → slice_get records place ≡ Some kept →
    (held_at (entries_of records) slot ≡ Some (record_of kept)) × (slot_recorded kept ≡ slot)
held_here records place kept slot apart found stands =
    let here : slice_get (entries_of records) place ≡ Some (entry_of kept) = slice_get-map entry_of records place ∙ ap (λ o. option_map entry_of o) stands in
    let both : Some found.entry ≡ Some (entry_of kept) = sym found.stands ∙ here in
    let same : found.entry ≡ entry_of kept = cc in
    let is : slot_recorded kept ≡ slot = ap (λ (e : Slot × SlotRecord). e.0) (sym same) ∙ found.is_of in
    (found_held (entries_of records) slot place (entry_of kept) apart here is, is)

-- ---- no slot has two records then either

none_with : (entries : List (Slot × SlotRecord)) (slot : Slot) (new : SlotRecord) (other : Slot) → (other ≡ slot → ⊥) →
    held_at entries other ≡ None →
    held_with entries slot new other ≡ None
unfolding held_with
none_with entries slot new other differs none = ap (λ (b : Bool). cond b (Some new) (held_at entries other)) (is_other other slot differs) ∙ none

pub apart-set : (entries : List (Slot × SlotRecord)) (slot : Slot) (place : ℕ) (entry : Slot × SlotRecord) (new : SlotRecord) →
    AreApart entries → slice_get entries place ≡ Some entry → entry.0 ≡ slot →
    AreApart (set entries place (slot, new))
apart-set [] slot place entry new apart stands is = absurd (cc)
apart-set (first ∷ others) slot zero entry new apart stands is =
    let same : first ≡ entry = cc in
    (subst (λ (s : Slot). held_at others s ≡ None) (ap (λ (e : Slot × SlotRecord). e.0) same ∙ is) apart.0, apart.1)
apart-set (first ∷ others) slot (suc place) entry new apart stands is =
    let held = found_held others slot place entry apart.1 stands is in
    let differs : first.0 ≡ slot → ⊥ = λ same. let none : held_at others slot ≡ None = subst (λ (s : Slot). held_at others s ≡ None) same apart.0 in cc in (
      held-set others slot place entry new apart.1 stands is first.0 ∙ none_with others slot new first.0 differs apart.0,
      apart-set others slot place entry new apart.1 stands is,
    )

pub apart-push : (entries : List (Slot × SlotRecord)) (slot : Slot) (new : SlotRecord) → held_at entries slot ≡ None → AreApart entries →
    AreApart (entries ++ (slot, new) ∷ [])
apart-push [] slot new none apart = (refl, tt)
apart-push (first ∷ others) slot new none apart =
    let parts = none_before first others slot none in
    (held-push others slot new parts.1 first.0 ∙ none_with others slot new first.0 parts.0 apart.0, apart-push others slot new parts.1 apart.1)

-- ---- the records, where there is one or none

blank_with : (test : Bool) (new : SlotRecord) (old : Option SlotRecord) → or_blank (cond test (Some new) old) ≡ cond test new (or_blank old)
blank_with true new old = refl
blank_with false new old = refl

pub record_with : (entries changed : List (Slot × SlotRecord)) (slot : Slot) (new : SlotRecord) (other : Slot) →
    held_at changed other ≡ held_with entries slot new other →
    record_at changed other ≡ with_record (record_at entries) slot new other
unfolding held_with
record_with entries changed slot new other held = ap or_blank held ∙ blank_with (same_slot other slot) new (held_at entries other)

-- ---- the records as they stand, after a change

pub place_none : (entries : List (Slot × SlotRecord)) (slot : Slot) (place : Option ℕ) → IsPlace entries slot place → place ≡ None → held_at entries slot ≡ None
place_none entries slot None is none = is
place_none entries slot (Some place) is none = absurd (cc)

pub place_within : (records : List Record) (slot : Slot) (place : ℕ) → IsFoundAt (entries_of records) slot place → place < length records
place_within records slot place found = omega (arith, slice_get_within (entries_of records) place found.entry found.stands, length-map records entry_of)

pub apart_put : (records : List Record) (place : ℕ) (kept : Record) → AreApart (entries_of records) →
    IsFoundAt (entries_of records) (slot_recorded kept) place →
    AreApart (entries_of (set records place kept))
apart_put records place kept apart found =
    subst AreApart (sym (map-set entry_of records place kept))
    (apart-set (entries_of records) (slot_recorded kept) place found.entry (record_of kept) apart found.stands found.is_of)

pub records_put : (records : List Record) (place : ℕ) (kept : Record) → AreApart (entries_of records) →
    IsFoundAt (entries_of records) (slot_recorded kept) place → (other : Slot) →
    record_at (entries_of (set records place kept)) other ≡ with_record (record_at (entries_of records)) (slot_recorded kept) (record_of kept) other
records_put records place kept apart found other =
    record_with (entries_of records) (entries_of (set records place kept)) (slot_recorded kept) (record_of kept) other
    (ap (λ (es : List (Slot × SlotRecord)). held_at es other) (map-set entry_of records place kept)
    ∙ held-set (entries_of records) (slot_recorded kept) place found.entry (record_of kept) apart found.stands found.is_of other)

pub apart_pushed : (records : List Record) (kept : Record) → AreApart (entries_of records) →
    held_at (entries_of records) (slot_recorded kept) ≡ None →
    AreApart (entries_of (records ++ kept ∷ []))
apart_pushed records kept apart none =
    subst AreApart (sym (map-append entry_of records (kept ∷ []))) (apart-push (entries_of records) (slot_recorded kept) (record_of kept) none apart)

pub records_pushed : (records : List Record) (kept : Record) → held_at (entries_of records) (slot_recorded kept) ≡ None → (other : Slot) →
    record_at (entries_of (records ++ kept ∷ [])) other ≡ with_record (record_at (entries_of records)) (slot_recorded kept) (record_of kept) other
records_pushed records kept none other =
    record_with (entries_of records) (entries_of (records ++ kept ∷ [])) (slot_recorded kept) (record_of kept) other
    (ap (λ (es : List (Slot × SlotRecord)). held_at es other) (map-append entry_of records (kept ∷ []))
    ∙ held-push (entries_of records) (slot_recorded kept) (record_of kept) none other)

-- ---- records that count before others

over : (front : List (Slot × SlotRecord)) (one other : List (Slot × SlotRecord)) (slot : Slot) → record_at one slot ≡ record_at other slot →
    record_at (front ++ one) slot ≡ record_at (front ++ other) slot
over [] one other slot same = same
over (first ∷ front) one other slot same = elim (by_first first slot) [
  | inl is ↦ ap or_blank (held_first first (front ++ one) slot is ∙ sym (held_first first (front ++ other) slot is))
  | inr differs ↦
      ap or_blank (held_later first (front ++ one) slot differs)
      ∙ over front one other slot same
      ∙ ap or_blank (sym (held_later first (front ++ other) slot differs))
]

with_is_first : (acc : List (Slot × SlotRecord)) (kept : Slot × SlotRecord) (slot : Slot) →
    with_record (record_at acc) kept.0 kept.1 slot ≡ record_at (kept ∷ acc) slot
with_is_first acc kept slot = elim (by_first kept slot) [
  | inl is ↦ ap (λ (b : Bool). cond b kept.1 (record_at acc slot)) (is_same slot kept.0 (sym is)) ∙ sym (ap or_blank (held_first kept acc slot is))
  | inr differs ↦ ap (λ (b : Bool). cond b kept.1 (record_at acc slot)) (is_other slot kept.0 (λ same. differs (sym same))) ∙ sym
      (ap or_blank (held_later kept acc slot differs))
]

-- the last of those that are left is applied
pub applied : (records left : List Record) (kept : Record) (before after : List (Slot × SlotRecord)) (slot : Slot) →
    records ≡ left ++ kept ∷ [] → record_at after slot ≡ with_record (record_at before) (slot_recorded kept) (record_of kept) slot →
    record_at (entries_of left ++ after) slot ≡ record_at (entries_of records ++ before) slot
applied records left kept before after slot split is =
    over (entries_of left) after (entry_of kept ∷ before) slot (is ∙ with_is_first before (entry_of kept) slot)
    ∙ ap (λ (es : List (Slot × SlotRecord)). record_at es slot) (sym (append_assoc (entries_of left) (entry_of kept ∷ []) before))
    ∙ ap (λ (es : List (Slot × SlotRecord)). record_at (es ++ before) slot) (sym (map-append entry_of left (kept ∷ [])))
    ∙ ap (λ (rs : List Record). record_at (entries_of rs ++ before) slot) (sym split)
