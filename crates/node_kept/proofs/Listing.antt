-- Of which messages there is a record, while records are taken in.
use Rattle.std.proofs.Common.{◌≡◌, ◌≢◌, ◌<◌, ℕ, Bool, cond, List, [], ◌∷◌, map, Option, Some, None, refl, sym, ap, subst, ◌∙◌, inl, inr, ◌⊎◌, arith}
use Rattle.std.specs.Map.{keys_of}
use Rattle.std.specs.Ordering.{nat_cmp, match_ordering}
use Rattle.std.specs.declared.cmp.Ordering.{Ordering}
use Rattle.std.specs.declared.cmp.Ordering.TheVariants.{Less, Equal, Greater}
use Rattle.std.specs.List.Sorted.{IsStrictlySortedBy}
use Rattle.std.specs.BTreeMap.{is_at}
use Rattle.std.proofs.lemmas.Bool.{cases_Bool}
use Rattle.std.proofs.lemmas.Bool.Decides.{nat_tests}
use Rattle.mc_model.specs.synod.Lists.{In}
use Rattle.mc_model.specs.synod.Packet.{Slot, same_slot, slot_at}
use Rattle.mc_model.specs.synod.Acceptor.{Records, SlotRecord, blank, with_record}
use Rattle.mc_parts.proofs.Membership.{slots_same}
use Rattle.node_model.proofs.Keys.{same_key}
use Rattle.node_model.specs.Recorded.{AreRecorded, IsRecorded, named_places}
use Rattle.shelf.proofs.Entries.{still_ascends}
use Rattle.shelf.specs.Shelved.{value_at, with_value}
use Rattle.synod_acceptor.proofs.Slots.{is_same}
use Rattle.node_parts.specs.declared.message.Message.{Message as Filed}
use Rattle.synod_acceptor.specs.Records.{record_at}
use Rattle.node_kept.specs.declared.kept.Kept.{Kept as Holding}
use Rattle.node_kept.specs.Keeping.{acceptor_in, filed_as, kept_of, records_of}
use Rattle.node_kept.specs.Listing.{ListsRecorded}

-- of the same records slot by slot
pub listed_of : (one other : Records) (ids : List ℕ) → ((slot : Slot) → one slot ≡ other slot) → AreRecorded one ids → AreRecorded other ids
listed_of one other ids same are = record {
  ascend = are.ascend;
  each = λ id in_ids. let is = are.each id in_ids in (is.0, is.1, λ none. is.2 (same (slot_at id is.0) ∙ none));
  all = λ id is. are.all id (is.0, is.1, λ none. is.2 (sym (same (slot_at id is.0)) ∙ none));
}

pub none_listed : AreRecorded (records_of []) []
unfolding IsStrictlySortedBy
none_listed = record { ascend = tt; each = λ id in_none. absurd in_none; all = λ id is. absurd (is.2 refl) }

-- ---- one key more

key_among : {V : Type 0} (es : List (ℕ × V)) (id : ℕ) (m : V) (key : ℕ) → In key (keys_of (with_value es id m)) → (key ≡ id) ⊎ In key (keys_of es)
key_among [] id m key (inl same) = inl same
key_among [] id m key (inr none) = absurd none
key_among (e ∷ es) id m key among = at_order (nat_cmp id e.0) among (key_among es id m key)
  where
    at_order : (o : Ordering) → In key (keys_of (match_ordering o ((id, m) ∷ e ∷ es) ((e.0, m) ∷ es) (e ∷ with_value es id m))) →
        (In key (keys_of (with_value es id m)) → (key ≡ id) ⊎ In key (keys_of es)) → (key ≡ id) ⊎ In key (keys_of (e ∷ es))
    at_order Less (inl same) later = inl same
    at_order Less (inr rest) later = inr rest
    at_order Equal among later = inr among
    at_order Greater (inl same) later = inr (inl same)
    at_order Greater (inr rest) later = elim (later rest) [ inl same ↦ inl same | inr old ↦ inr (inr old) ]

pub key_put : {V : Type 0} (es : List (ℕ × V)) (id : ℕ) (m : V) (key : ℕ) → (key ≡ id) ⊎ In key (keys_of es) → In key (keys_of (with_value es id m))
key_put [] id m key (inl same) = inl same
key_put [] id m key (inr none) = absurd none
key_put (e ∷ es) id m key is = at_order (nat_cmp id e.0) refl is (key_put es id m key)
  where
    at_order : (o : Ordering) → nat_cmp id e.0 ≡ o → (key ≡ id) ⊎ In key (keys_of (e ∷ es)) →
        ((key ≡ id) ⊎ In key (keys_of es) → In key (keys_of (with_value es id m))) →
        In key (keys_of (match_ordering o ((id, m) ∷ e ∷ es) ((e.0, m) ∷ es) (e ∷ with_value es id m)))
    at_order Less order (inl same) later = inl same
    at_order Less order (inr old) later = inr old
    at_order Equal order (inl same) later = let first : id ≡ e.0 = grind (arith, nat_tests) in inl (same ∙ first)
    at_order Equal order (inr old) later = old
    at_order Greater order (inl same) later = inr (later (inl same))
    at_order Greater order (inr (inl first)) later = inl first
    at_order Greater order (inr (inr rest)) later = inr (later (inr rest))

-- ---- one record more

was_there : (old new : Records) (slot : Slot) (r : SlotRecord) → ((other : Slot) → new other ≡ with_record old slot r other) →
    (other : Slot) → new other ≢ blank → (other ≡ slot) ⊎ (old other ≢ blank)
was_there old new slot r puts other is = elim (cases_Bool (same_slot other slot)) [
  | inl same ↦ inl (slots_same other slot same)
  | inr apart ↦ inr (λ none. is (puts other ∙ ap (λ (test : Bool). cond test r (old other)) apart ∙ none))
]

-- what there is a record of after one was put, there was a record of before, or it was put
pub was_recorded : (old new : Records) (slot : Slot) (r : SlotRecord) (id : ℕ) → ((other : Slot) → new other ≡ with_record old slot r other) →
    IsRecorded new id → (id ≡ slot.id) ⊎ IsRecorded old id
was_recorded old new slot r id puts is = elim (was_there old new slot r puts (slot_at id is.0) is.2) [
  | inl same ↦ inl (ap (λ (s : Slot). s.id) same)
  | inr before ↦ inr (is.0, is.1, before)
]

module _ (old new : Records) (slot : Slot) (r : SlotRecord) (differs : r ≢ blank) (puts : (other : Slot) → new other ≡ with_record old slot r other) where
  stays : (other : Slot) → old other ≢ blank → new other ≢ blank
  stays other was none = elim (cases_Bool (same_slot other slot)) [
    | inl same ↦ differs (sym (puts other ∙ ap (λ (test : Bool). cond test r (old other)) same) ∙ none)
    | inr apart ↦ was (sym (puts other ∙ ap (λ (test : Bool). cond test r (old other)) apart) ∙ none)
  ]

  is_put : (other : Slot) → other ≡ slot → new other ≢ blank
  is_put other same none = differs (sym (puts other ∙ ap (λ (test : Bool). cond test r (old other)) (is_same other slot same)) ∙ none)

pub listed_put : (old new : Records) (es : List (ℕ × Filed)) (slot : Slot) (r : SlotRecord) (id : ℕ) (m : Filed) → id ≡ slot.id → r ≢ blank →
    slot.place < named_places →
    ((other : Slot) → new other ≡ with_record old slot r other) → AreRecorded old (keys_of es) → AreRecorded new (keys_of (with_value es id m))
listed_put old new es slot r id m about differs within puts are = record {
  ascend = still_ascends es id m are.ascend;
  each = λ key among. elim (key_among es id m key among) [
    | inl same ↦ (slot.place, within, is_put old new slot r differs puts (slot_at key slot.place) (λ i. record { id = (same ∙ about) i; place = slot.place }))
    | inr before ↦ let is = are.each key before in (is.0, is.1, stays old new slot r differs puts (slot_at key is.0) is.2)
  ];
  all = λ key is. key_put es id m key (elim (was_recorded old new slot r key puts is) [
    | inl same ↦ inl (same ∙ sym about)
    | inr before ↦ inr (are.all key before)
  ]);
}

-- ---- what a node keeps

keys_filed : (es : List (ℕ × Filed)) → keys_of (map filed_as es) ≡ keys_of es
keys_filed [] = refl
keys_filed (e ∷ es) = ap (λ (rest : List ℕ). e.0 ∷ rest) (keys_filed es)

pub listed_in : (es : List (ℕ × Filed)) (id : ℕ) → (value_at es id ≢ None) → In id (keys_of es)
listed_in [] id some = absurd (some refl)
listed_in (e ∷ es) id some = elim (cases_Bool (is_at (nat_cmp id) e.0)) [
  | inl same ↦ inl (same_key id e.0 same)
  | inr apart ↦ inr (listed_in es id (λ none. some (ap (λ (test : Bool). cond test (Some e.1) (value_at es id)) apart ∙ none)))
]

pub lists_recorded : (k : Holding) → IsStrictlySortedBy nat_cmp (keys_of k.messages.entries) → ListsRecorded (kept_of k)
lists_recorded k ascend = record {
  ascend = subst (IsStrictlySortedBy nat_cmp) (sym (keys_filed k.messages.entries)) ascend;
  all = λ id is.
      subst (λ (ids : List ℕ). In id ids) (sym (keys_filed k.messages.entries))
      (listed_in k.messages.entries id (λ none. is.2 (ap (λ (found : Option Filed). record_at (acceptor_in found) (slot_at id is.0)) none)));
}
