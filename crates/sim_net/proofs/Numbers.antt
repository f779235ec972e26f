-- Places of a list, and the numbers of packets.
use Rattle.std.proofs.Common.{◌≡◌, ◌⊎◌, ℕ, zero, suc, ◌+◌, ◌<◌, ◌≤◌, true, false, List, [], ◌∷◌, ◌++◌, length, map, Some, None, refl, sym}
use Rattle.std.proofs.Common.{ap, subst, ◌∙◌, inl, inr, arith, append_assoc, length-append}
use Rattle.std.specs.Prelude.{reverse, nat_lt, nat_le, ◌&&◌}
use Rattle.std.specs.List.{slice_get}
use Rattle.std.proofs.Math.ListN.{set}
use Rattle.std.proofs.lemmas.List.{length-reverse, map-append, reverse-append}
use Rattle.std.proofs.lemmas.Bool.Decides.{nat_tests}
use Rattle.mc_model.specs.synod.Lists.{In}
use Rattle.mc_model.specs.synod.Packet.{Packet}
use Rattle.mc_model.specs.node.Outputs.{HasNumber}
use Rattle.mc_parts.proofs.Membership.{at_place}
use Rattle.sim_net.specs.Network.{numbered}

some_is : {A : Type 0} {a b : A} → Some a ≡ Some b → a ≡ b
some_is same = cc

-- ---- a list with another member in one place

pub set_get : {A : Type 0} (xs : List A) (place k : ℕ) (new y : A) → slice_get (set xs place new) k ≡ Some y →
    ((k ≡ place) × (y ≡ new)) ⊎ ((k ≡ place → ⊥) × (slice_get xs k ≡ Some y))
set_get [] zero k new y is = absurd cc
set_get [] (suc place) k new y is = absurd cc
set_get (x ∷ xs) zero zero new y is = inl (refl, sym (some_is is))
set_get (x ∷ xs) zero (suc k) new y is = inr (λ same. omega arith, is)
set_get (x ∷ xs) (suc place) zero new y is = inr (λ same. omega arith, is)
set_get (x ∷ xs) (suc place) (suc k) new y is = elim (set_get xs place k new y is) [
  | inl both ↦ inl (ap suc both.0, both.1)
  | inr other ↦ inr (λ same. other.0 (omega (arith, same)), other.1)
]

-- ---- what stands at a place

pub numbered_in : {A : Type 0} (xs : List A) (number : ℕ) (x : A) → numbered xs number ≡ Some x → In x xs
numbered_in xs zero x is = absurd cc
numbered_in xs (suc place) x is = at_place xs place x is

pub record IsSplit {A : Type 0} (xs : List A) (place : ℕ) (x : A) : Type 0 where
  pub front : List A
  pub back : List A
  pub split : xs ≡ front ++ x ∷ back
  pub place_is : length front ≡ place

pub split_at : {A : Type 0} (xs : List A) (place : ℕ) (x : A) → slice_get xs place ≡ Some x → IsSplit xs place x
split_at [] place x is = absurd cc
split_at (y ∷ xs) zero x is = record { front = []; back = xs; split = ap (λ z. z ∷ xs) (some_is is); place_is = refl }
split_at (y ∷ xs) (suc place) x is =
    let rest = split_at xs place x is in
    record { front = y ∷ rest.front; back = rest.back; split = ap (λ ys. y ∷ ys) rest.split; place_is = omega (arith, rest.place_is) }

pub map_length : {A B : Type 0} (f : A → B) (xs : List A) → length (map f xs) ≡ length xs
map_length f [] = refl
map_length f (x ∷ xs) = omega (arith, map_length f xs)

-- ---- numbers, over packets that were sent before the first of these

module _ {A : Type 0} (f : A → Packet) where
  turned : (front back : List A) (x : A) (behind : List Packet) →
      reverse (map f (front ++ x ∷ back)) ++ behind ≡ reverse (map f back) ++ f x ∷ (reverse (map f front) ++ behind)
  turned front back x behind =
      ap (λ ys. reverse ys ++ behind) (map-append f front (x ∷ back))
      ∙ ap (λ ys. ys ++ behind) (reverse-append (map f front) (f x ∷ map f back))
      ∙ ap (λ ys. (ys ++ reverse (map f front)) ++ behind) (reverse-append (f x ∷ []) (map f back))
      ∙ append_assoc (reverse (map f back) ++ f x ∷ []) (reverse (map f front)) behind
      ∙ append_assoc (reverse (map f back)) (f x ∷ []) (reverse (map f front) ++ behind)

  pub has_number : (xs : List A) (number : ℕ) (x : A) (behind : List Packet) → numbered xs number ≡ Some x →
      HasNumber (reverse (map f xs) ++ behind) (number + length behind) (f x)
  has_number xs zero x behind is = absurd cc
  has_number xs (suc place) x behind is =
      let here = split_at xs place x is in
      let lengths : length (reverse (map f here.front) ++ behind) ≡ place + length behind =
      length-append (reverse (map f here.front)) behind ∙ ap (λ n. n + length behind)
      (length-reverse (map f here.front) ∙ map_length f here.front ∙ here.place_is) in
      record {
        newer = reverse (map f here.back);
        older = reverse (map f here.front) ++ behind;
        split = ap (λ ys. reverse (map f ys) ++ behind) here.split ∙ turned here.front here.back x behind;
        number_is = omega (arith, lengths);
      }

-- a packet with a number is one of them
in_middle : (newer older : List Packet) (packet : Packet) → In packet (newer ++ packet ∷ older)
in_middle [] older packet = inl refl
in_middle (first ∷ newer) older packet = inr (in_middle newer older packet)

pub number_in : (packets : List Packet) (number : ℕ) (packet : Packet) → HasNumber packets number packet → In packet packets
number_in packets number packet has = subst (In packet) (sym has.split) (in_middle has.newer has.older packet)

-- ---- whether a number was given

past_end : {A : Type 0} (xs : List A) (place : ℕ) → slice_get xs place ≡ None → length xs ≤ place
past_end [] place is = omega arith
past_end (x ∷ xs) zero is = absurd cc
past_end (x ∷ xs) (suc place) is = omega (arith, past_end xs place is)

within : {A : Type 0} (xs : List A) (place : ℕ) (x : A) → slice_get xs place ≡ Some x → place < length xs
within [] place x is = absurd cc
within (y ∷ xs) zero x is = omega arith
within (y ∷ xs) (suc place) x is = omega (arith, within xs place x is)

pub none_given : {A : Type 0} (xs : List A) (number behind total : ℕ) → total ≡ length xs + behind → numbered xs number ≡ None →
    (nat_lt 0 number && nat_le (number + behind) total) ≡ false
none_given xs zero behind total all is = refl
none_given xs (suc place) behind total all is = let past = past_end xs place is in grind (arith, nat_tests)

pub some_given : {A : Type 0} (xs : List A) (number behind total : ℕ) (x : A) → total ≡ length xs + behind → numbered xs number ≡ Some x →
    (nat_lt 0 number && nat_le (number + behind) total) ≡ true
some_given xs zero behind total x all is = absurd cc
some_given xs (suc place) behind total x all is = let inside = within xs place x is in grind (arith, nat_tests)
