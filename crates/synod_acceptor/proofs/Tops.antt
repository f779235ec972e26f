-- The vote at the highest place of a message, record after record.
use Rattle.std.proofs.Common.{◌≡◌, ℕ, ◌+◌, ◌<◌, ◌≤◌, List, [], ◌∷◌, ◌++◌, length, get_or, take, Option, Some, None, refl, sym, ap, subst, ◌∙◌, inl, inr, arith}
use Rattle.std.proofs.lemmas.List.{map-append, take_more}
use Rattle.mc_model.specs.synod.Lists.{In}
use Rattle.mc_model.specs.synod.OneSlot.{Vote}
use Rattle.mc_model.specs.synod.Packet.{Slot, TopVote, slot_at, top_at}
use Rattle.mc_model.specs.synod.Acceptor.{SlotRecord, IsTold}
use Rattle.mc_parts.proofs.Membership.{in_right, in_left, in_two}
use Rattle.synod_acceptor.specs.Votes.{Record, slot_in, told_vote, vote_of}
use Rattle.synod_acceptor.specs.declared.vote.Vote.{Vote as Cast}
use Rattle.synod_acceptor.specs.declared.vote.Report.TheVariants.{Nothing, Held}
use Rattle.synod_acceptor.specs.Records.{entries_of, entry_of, held_at, or_blank, record_at, AreApart, IsAbove, IsTopEntry, IsTopOf, Passes}
use Rattle.synod_acceptor.proofs.Slots.{by_first, held_first, held_later}

abbrev voted_at : ℕ → ℕ → ℕ → Vote → Slot × SlotRecord
voted_at id place promised vote = (slot_at id place, record { promised = promised; vote = Some vote })

-- ---- one more record

-- its vote, if it is of the message, is at no higher place
abbrev pub IsWithinTop : Option TopVote → ℕ → Type 0
IsWithinTop None place = ⊥
IsWithinTop (Some told) place = place ≤ told.place

abbrev pub AddsNone : Slot × SlotRecord → ℕ → Option TopVote → Type 0
AddsNone entry id told = (place promised : ℕ) (vote : Vote) → voted_at id place promised vote ≡ entry → IsWithinTop told place

pub top_still : (entries : List (Slot × SlotRecord)) (entry : Slot × SlotRecord) (id : ℕ) (told : Option TopVote) →
    IsTopOf entries id told → AddsNone entry id told →
    IsTopOf (entries ++ entry ∷ []) id told
top_still entries entry id None top none = λ place promised vote is_in. elim (in_two _ entries entry is_in) [
  | inl before ↦ top place promised vote before
  | inr same ↦ none place promised vote same
]
top_still entries entry id (Some told) top within = record {
  about = top.about;
  stands = (top.stands.0, in_left _ entries (entry ∷ []) top.stands.1);
  highest = λ place promised vote is_in. elim (in_two _ entries entry is_in) [
    | inl before ↦ top.highest place promised vote before
    | inr same ↦ within place promised vote same
  ];
}

-- it is of the message and at a higher place
abbrev pub IsHigher : Option TopVote → ℕ → Type 0
IsHigher None place = Unit {0}
IsHigher (Some told) place = told.place < place

pub top_higher : (entries : List (Slot × SlotRecord)) (promised id : ℕ) (told : Option TopVote) (new : TopVote) → IsTopOf entries id told →
    new.id ≡ id → IsHigher told new.place →
    IsTopOf (entries ++ voted_at id new.place promised new.vote ∷ []) id (Some new)
top_higher entries promised id told new top about higher = record {
  about = about;
  stands = (promised, in_right _ entries (voted_at id new.place promised new.vote ∷ []) (inl refl));
  highest = λ place was vote is_in. elim (in_two _ entries (voted_at id new.place promised new.vote) is_in) [
    | inl before ↦ below told top higher place was vote before
    | inr same ↦ let places : place ≡ new.place = ap (λ (e : Slot × SlotRecord). e.0.place) same in omega arith
  ];
}
  where
    below : (told : Option TopVote) → IsTopOf entries id told → IsHigher told new.place → (place was : ℕ) (vote : Vote) →
        In (voted_at id place was vote) entries →
        place ≤ new.place
    below None top higher place was vote before = absurd (top place was vote before)
    below (Some old) top higher place was vote before = omega (arith, top.highest place was vote before, higher)

-- ---- one more report

pub passes_none : (slot : Slot) (id : ℕ) (told : Option TopVote) → Passes (Nothing slot) id told told
passes_none slot id told = record {
  leads = λ entries promised top. top_still entries (slot, record { promised = promised; vote = None }) id told top (λ place was vote same.
      let clash : Some vote ≡ None = ap (λ (e : Slot × SlotRecord). e.1.vote) same in absurd (cc));
}

pub passes_other : (cast : Cast) (id : ℕ) (told : Option TopVote) → (cast.chain.id ≡ id → ⊥) → Passes (Held cast) id told told
passes_other cast id told differs = record {
  leads = λ entries promised top. top_still entries (slot_in cast, record { promised = promised; vote = Some (vote_of cast) }) id told top
      (λ place was vote same.
      absurd (differs (sym (ap (λ (e : Slot × SlotRecord). e.0.id) same))));
}

within : (cast : Cast) (told : Option Cast) → (IsAbove cast told → ⊥) → IsWithinTop (told_vote told) (slot_in cast).place
within cast None never = never tt
within cast (Some old) never = not_above never
  where
    not_above : ((slot_in old).place < (slot_in cast).place → ⊥) → (slot_in cast).place ≤ (slot_in old).place
    not_above none = omega arith

pub passes_lower : (cast : Cast) (id : ℕ) (told : Option Cast) → (IsAbove cast told → ⊥) → Passes (Held cast) id (told_vote told) (told_vote told)
passes_lower cast id told never = record {
  leads = λ entries promised top. top_still entries (slot_in cast, record { promised = promised; vote = Some (vote_of cast) }) id
      (told_vote told) top (λ place was vote same.
      subst (λ (p : ℕ). IsWithinTop (told_vote told) p) (sym (ap (λ (e : Slot × SlotRecord). e.0.place) same)) (within cast told never));
}

higher : (cast : Cast) (told : Option Cast) → IsAbove cast told → IsHigher (told_vote told) (slot_in cast).place
higher cast None above = tt
higher cast (Some old) above = above

pub passes_higher : (cast : Cast) (id : ℕ) (told : Option Cast) → cast.chain.id ≡ id → IsAbove cast told →
    Passes (Held cast) id (told_vote told) (told_vote (Some cast))
passes_higher cast id told same above = record {
  leads = λ entries promised top.
      let grown = top_higher entries promised id (told_vote told) (top_at (slot_in cast) (vote_of cast)) top same (higher cast told above) in
      let slots : slot_at id (slot_in cast).place ≡ slot_in cast = λ i. slot_at (sym same i) (slot_in cast).place in
      subst (λ (s : Slot). IsTopEntry (entries ++ (s, record { promised = promised; vote = Some (vote_of cast) }) ∷ []) id
      (top_at (slot_in cast) (vote_of cast))) slots grown;
}

-- and of the records as they stand
pub passes_next : (records : List Record) (place : ℕ) (kept : Record) (id : ℕ) (before after : Option TopVote) → place < length records →
    kept ≡ get_or records place kept → Passes kept.report id before after → IsTopOf (entries_of (take place records)) id before →
    IsTopOf (entries_of (take (place + 1) records)) id after
passes_next records place kept id before after below is passes top =
    let more : take (place + 1) records ≡ take place records ++ kept ∷ [] = take_more records place kept below ∙ ap
    (λ (r : Record). take place records ++ r ∷ []) (sym is) in
    let entries : entries_of (take (place + 1) records) ≡ entries_of (take place records) ++ entry_of kept ∷ [] = ap entries_of more
    ∙ map-append entry_of (take place records) (kept ∷ []) in
    subst (λ (es : List (Slot × SlotRecord)). IsTopOf es id after) (sym entries) (passes.leads (entries_of (take place records)) kept.promised top)

-- ---- what is told of all records

held_in : (entries : List (Slot × SlotRecord)) (slot : Slot) (r : SlotRecord) → held_at entries slot ≡ Some r → In (slot, r) entries
held_in [] slot r held = absurd (cc)
held_in (first ∷ others) slot r held = elim (by_first first slot) [
  | inl same ↦
      let is : first.1 ≡ r = let e = held_first first others slot same in cc in
      inl (λ i. (sym same i, sym is i))
  | inr differs ↦ inr (held_in others slot r (sym (held_later first others slot differs) ∙ held))
]

in_held : (entries : List (Slot × SlotRecord)) (slot : Slot) (r : SlotRecord) → AreApart entries → In (slot, r) entries → held_at entries slot ≡ Some r
in_held [] slot r apart is_in = absurd is_in
in_held (first ∷ others) slot r apart (inl same) =
    held_first first others slot (sym (ap (λ (e : Slot × SlotRecord). e.0) same)) ∙ ap (λ (e : Slot × SlotRecord). Some e.1) (sym same)
in_held (first ∷ others) slot r apart (inr later) =
    let held = in_held others slot r apart.1 later in
    held_later first others slot (λ same. let none : held_at others slot ≡ None = subst (λ (s : Slot). held_at others s ≡ None) same apart.0 in cc) ∙ held

-- a vote in the records is that of an entry
voted_in : (entries : List (Slot × SlotRecord)) (slot : Slot) (vote : Vote) (found : Option SlotRecord) → held_at entries slot ≡ found →
    (or_blank found).vote ≡ Some vote →
    (promised : ℕ) × In (slot, record { promised = promised; vote = Some vote }) entries
voted_in entries slot vote None held voted = absurd (cc)
voted_in entries slot vote (Some r) held voted = (
  r.promised,
  held_in entries slot (record { promised = r.promised; vote = Some vote })
      (held ∙ ap (λ (v : Option Vote). Some (record { promised = r.promised; vote = v })) voted),
)

no_vote : (entries : List (Slot × SlotRecord)) (slot : Slot) (vote : Option Vote) → (record_at entries slot).vote ≡ vote →
    ((promised : ℕ) (cast : Vote) → In (slot, record { promised = promised; vote = Some cast }) entries → ⊥) →
    vote ≡ None
no_vote entries slot None is none = refl
no_vote entries slot (Some cast) is none = let found = voted_in entries slot cast (held_at entries slot) refl is in absurd (none found.0 cast found.1)

pub top_told : (entries : List (Slot × SlotRecord)) (id : ℕ) (told : Option TopVote) → AreApart entries → IsTopOf entries id told →
    IsTold (record_at entries) id told
top_told entries id None apart top =
    λ place. no_vote entries (slot_at id place) (record_at entries (slot_at id place)).vote refl (λ promised cast is_in. top place promised cast is_in)
top_told entries id (Some told) apart top = record {
  about = top.about;
  voted = ap (λ (o : Option SlotRecord). (or_blank o).vote) (in_held entries (slot_at id told.place) _ apart top.stands.1);
  highest = λ place vote voted. let found = voted_in entries (slot_at id place) vote (held_at entries (slot_at id place)) refl voted in
      top.highest place found.0 vote found.1;
}
