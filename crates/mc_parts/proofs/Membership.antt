-- Members of lists, slots that are the same, and the record of a slot.
use Rattle.std.proofs.Common.{◌≡◌, ◌⊎◌, ℕ, Bool, true, false, List, [], ◌∷◌, ◌++◌, map, filter, refl, sym, subst, inl, inr, zero, suc, Some, ap}
use Rattle.std.specs.Prelude.{◌==◌, cond, if◌then◌else◌}
use Rattle.std.proofs.lemmas.Bool.{and_from, and_parts, eq-eqb, eqb-true}
use Rattle.std.specs.List.{slice_get}
use Rattle.mc_model.specs.synod.Lists.{In}
use Rattle.mc_model.specs.synod.Packet.{Slot, same_slot}
use Rattle.mc_model.specs.synod.Acceptor.{Records, SlotRecord, with_record}

pub in_left : {A : Type 0} (x : A) (front back : List A) → In x front → In x (front ++ back)
in_left x [] back is_in = absurd is_in
in_left x (y ∷ front) back (inl same) = inl same
in_left x (y ∷ front) back (inr later) = inr (in_left x front back later)

pub in_right : {A : Type 0} (x : A) (front back : List A) → In x back → In x (front ++ back)
in_right x [] back is_in = is_in
in_right x (y ∷ front) back is_in = inr (in_right x front back is_in)

pub in_either : {A : Type 0} (x : A) (front back : List A) → In x (front ++ back) → In x front ⊎ In x back
in_either x [] back is_in = inr is_in
in_either x (y ∷ front) back (inl same) = inl (inl same)
in_either x (y ∷ front) back (inr later) = elim (in_either x front back later) [ inl a ↦ inl (inr a) | inr b ↦ inr b ]

-- a member of a list with one more at its end is in the list, or is that one
pub in_two : {A : Type 0} (x : A) (front : List A) (last : A) → In x (front ++ last ∷ []) → In x front ⊎ (x ≡ last)
in_two x front last is_in = elim (in_either x front (last ∷ []) is_in) [
  | inl before ↦ inl before
  | inr (inl same) ↦ inr same
  | inr (inr none) ↦ absurd none
]

-- what stands at a place
pub at_place : {A : Type 0} (xs : List A) (place : ℕ) (x : A) → slice_get xs place ≡ Some x → In x xs
at_place [] place x is = absurd cc
at_place (y ∷ xs) zero x is = inl cc
at_place (y ∷ xs) (suc place) x is = inr (at_place xs place x is)

-- a list with a member is not empty
pub never_empty : {A : Type 0} (newer older : List A) (x : A) → [] ≡ newer ++ x ∷ older → ⊥
never_empty [] older x is = cc
never_empty (y ∷ newer) older x is = cc

-- what holds of the only member of a list
pub of_only : {A : Type 0} (P : A → Type 0) (only x : A) → P only → In x (only ∷ []) → P x
of_only P only x holds (inl same) = subst P (sym same) holds
of_only P only x holds (inr none) = absurd none

pub slots_same : (a b : Slot) → same_slot a b ≡ true → a ≡ b
slots_same a b same =
    let parts = and_parts (a.id == b.id) (a.place == b.place) same in
    let ids : a.id ≡ b.id = eqb-true a.id b.id parts.0 in
    let places : a.place ≡ b.place = eqb-true a.place b.place parts.1 in
    λ i. record { id = ids i; place = places i }

pub slot_self : (slot : Slot) → same_slot slot slot ≡ true
slot_self slot = and_from (slot.id == slot.id) (slot.place == slot.place) (eq-eqb slot.id slot.id refl) (eq-eqb slot.place slot.place refl)

-- the record of a slot that was given one
pub with_here : (records : Records) (slot : Slot) (new : SlotRecord) → with_record records slot new slot ≡ new
with_here records slot new = ap (λ (test : Bool). if test then new else records slot) (slot_self slot)

-- a member of a mapped list, and the one that it was made of
pub record MadeOf {A : Type 0} (f : A → A) (xs : List A) (y : A) : Type 0 where
  pub from : A
  pub member : In from xs
  pub made : y ≡ f from

pub in_map : {A : Type 0} (f : A → A) (xs : List A) (y : A) → In y (map f xs) → MadeOf f xs y
in_map f [] y is_in = absurd is_in
in_map f (x ∷ xs) y (inl same) = record { from = x; member = inl refl; made = same }
in_map f (x ∷ xs) y (inr later) = let m = in_map f xs y later in record { from = m.from; member = inr m.member; made = m.made }

filtered : {A : Type 0} (b : Bool) (x y : A) (rest xs : List A) → (In y rest → In y xs) → In y (cond b (x ∷ rest) rest) → In y (x ∷ xs)
filtered true x y rest xs kept (inl same) = inl same
filtered true x y rest xs kept (inr later) = inr (kept later)
filtered false x y rest xs kept later = inr (kept later)

pub in_filter : {A : Type 0} (test : A → Bool) (xs : List A) (y : A) → In y (filter test xs) → In y xs
in_filter test [] y is_in = is_in
in_filter test (x ∷ xs) y is_in = filtered (test x) x y (filter test xs) xs (in_filter test xs y) is_in
