-- What an acceptor tells of a message, place after place.
use Rattle.std.proofs.Common.{◌≡◌, ◌⊎◌, ℕ, zero, suc, ◌<◌, ◌≤◌, Bool, true, false, Option, Some, None, refl, sym, ap, ◌∙◌, inl, inr, arith}
use Rattle.std.specs.Prelude.{◌==◌, if◌then◌else◌}
use Rattle.std.proofs.lemmas.Bool.{and_parts, cases_lt}
use Rattle.std.proofs.lemmas.Bool.Decides.{Decides-eqb}
use Rattle.mc_model.specs.synod.OneSlot.{Vote}
use Rattle.mc_model.specs.synod.Packet.{Slot, TopVote, same_slot, slot_at}
use Rattle.mc_model.specs.synod.Acceptor.{IsTold, Records, SlotRecord, with_record}
use Rattle.node_model.specs.Message.{most_places}
use Rattle.node_model.specs.Acceptor.{ArePlaced, told_below, told_of, told_with}

record IsTopBelow (records : Records) (id bound : ℕ) (told : TopVote) : Type 0 where
  about : told.id ≡ id
  voted : (records (slot_at id told.place)).vote ≡ Some told.vote
  highest : (place : ℕ) (vote : Vote) → place < bound → (records (slot_at id place)).vote ≡ Some vote → place ≤ told.place

abbrev IsToldBelow : Records → ℕ → ℕ → Option TopVote → Type 0
IsToldBelow records id bound None = (place : ℕ) → place < bound → (records (slot_at id place)).vote ≡ None
IsToldBelow records id bound (Some told) = IsTopBelow records id bound told

told_is_below : (records : Records) (id bound : ℕ) → IsToldBelow records id bound (told_below records id bound)
told_is_below records id zero = λ place below. absurd (omega arith)
told_is_below records id (suc bound) = by_vote (records (slot_at id bound)).vote refl (told_below records id bound) (told_is_below records id bound)
  where
    by_vote : (vote : Option Vote) → (records (slot_at id bound)).vote ≡ vote → (lower : Option TopVote) → IsToldBelow records id bound lower →
        IsToldBelow records id (suc bound) (told_with (slot_at id bound) vote lower)
    by_vote (Some vote) is lower before = record { about = refl; voted = is; highest = λ place other below also. omega arith }
    by_vote None is None before = λ place below. elim (cases_lt place bound) [
      | inl lower ↦ before place lower
      | inr from ↦ let same : place ≡ bound = omega arith in rw same is
    ]
    by_vote None is (Some told) before = record {
      about = before.about;
      voted = before.voted;
      highest = λ place vote below voted. elim (cases_lt place bound) [
        | inl lower ↦ before.highest place vote lower voted
        | inr from ↦
            let same : place ≡ bound = omega arith in
            let none : (records (slot_at id place)).vote ≡ None = rw same is in
            let both : Some vote ≡ None = sym voted ∙ none in absurd (cc)
      ];
    }

-- of a slot at no place of a chain there is no vote
none_beyond : (records : Records) → ArePlaced records → (id place : ℕ) (found : Option Vote) → (records (slot_at id place)).vote ≡ found →
    most_places ≤ place → found ≡ None
none_beyond records placed id place None is beyond = refl
none_beyond records placed id place (Some vote) is beyond = absurd (omega (arith, placed (slot_at id place) vote is, beyond))

pub told_is : (records : Records) (id : ℕ) → ArePlaced records → IsTold records id (told_of records id)
told_is records id placed = by_told (told_of records id) (told_is_below records id most_places)
  where
    by_told : (told : Option TopVote) → IsToldBelow records id most_places told → IsTold records id told
    by_told None before = λ place. elim (cases_lt place most_places) [
      | inl lower ↦ before place lower
      | inr beyond ↦ none_beyond records placed id place (records (slot_at id place)).vote refl beyond
    ]
    by_told (Some told) before = record {
      about = before.about;
      voted = before.voted;
      highest = λ place vote voted. before.highest place vote (placed (slot_at id place) vote voted) voted;
    }

-- a record is changed
pub placed_with : (old new : Records) (slot : Slot) (r : SlotRecord) → ArePlaced old → (r.vote ≡ None) ⊎ (slot.place < most_places) →
    ((other : Slot) → new other ≡ with_record old slot r other) → ArePlaced new
placed_with old new slot r placed within is other vote voted = by_test (same_slot other slot) refl
  where
    by_test : (test : Bool) → same_slot other slot ≡ test → other.place < most_places
    by_test false differs =
        placed other vote (ap (λ (b : Bool). (if b then r else old other).vote) (sym differs) ∙
        (ap (λ (found : SlotRecord). found.vote) (sym (is other)) ∙ voted))
    by_test true same =
        let found : r.vote ≡ Some vote = ap (λ (b : Bool). (if b then r else old other).vote) (sym same) ∙
        (ap (λ (kept : SlotRecord). kept.vote) (sym (is other)) ∙ voted) in
        let places : other.place ≡ slot.place = (Decides-eqb other.place slot.place).0 (and_parts (other.id == slot.id) (other.place == slot.place) same).1 in
        elim within [
          | inl none ↦ let both : Some vote ≡ None = sym found ∙ none in absurd (cc)
          | inr below ↦ omega (arith, places, below)
        ]
