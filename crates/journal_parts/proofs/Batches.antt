-- The numbers of packets that are handed in at once are those from the first on.
use Rattle.std.proofs.Common.{◌≡◌, ◌⊎◌, ◌≤◌, ◌+◌, ℕ, List, [], ◌∷◌, ◌++◌, length, length-append, sym, subst, ap, inl, inr, arith}
use Rattle.std.proofs.Math.Nat.{eq-or-lt_of_le}
use Rattle.mc_model.specs.synod.Lists.{In}
use Rattle.journal_parts.specs.Batches.{Covers, IsOneMore}
use Rattle.mc_parts.proofs.Membership.{in_left, in_right}

one_longer : (numbers more : List ℕ) (number : ℕ) → more ≡ numbers ++ number ∷ [] → length more ≡ length numbers + 1
one_longer numbers more number is =
    let same = ap length is in
    let longer = length-append numbers (number ∷ []) in
    omega (arith, same, longer)

pub counts_more : (first number : ℕ) (saving others more most : List ℕ) → first + (length saving + length others) ≡ number → IsOneMore number saving others more most →
    first + (length more + length most) ≡ number + 1
counts_more first number saving others more most count (inl (longer, same)) =
    let one = one_longer saving more number longer in
    let as_many = ap length same in
    omega (arith, count, one, as_many)
counts_more first number saving others more most count (inr (same, longer)) =
    let one = one_longer others most number longer in
    let as_many = ap length same in
    omega (arith, count, one, as_many)

pub older : (one number : ℕ) (saving others more most : List ℕ) → IsOneMore number saving others more most → In one saving ⊎ In one others → In one more ⊎ In one most
older one number saving others more most (inl (longer, same)) (inl among) = inl (subst (λ (ns : List ℕ). In one ns) (sym longer) (in_left one saving (number ∷ []) among))
older one number saving others more most (inl (longer, same)) (inr among) = inr (subst (λ (ns : List ℕ). In one ns) (sym same) among)
older one number saving others more most (inr (same, longer)) (inl among) = inl (subst (λ (ns : List ℕ). In one ns) (sym same) among)
older one number saving others more most (inr (same, longer)) (inr among) = inr (subst (λ (ns : List ℕ). In one ns) (sym longer) (in_left one others (number ∷ []) among))

pub newest : (one number : ℕ) (saving others more most : List ℕ) → IsOneMore number saving others more most → one ≡ number → In one more ⊎ In one most
newest one number saving others more most (inl (longer, same)) is = inl (subst (λ (ns : List ℕ). In one ns) (sym longer) (in_right one saving (number ∷ []) (inl is)))
newest one number saving others more most (inr (same, longer)) is = inr (subst (λ (ns : List ℕ). In one ns) (sym longer) (in_right one others (number ∷ []) (inl is)))

pub covers_more : (first number : ℕ) (saving others more most : List ℕ) → Covers first saving others → first + (length saving + length others) ≡ number →
    IsOneMore number saving others more most → Covers first more most
covers_more first number saving others more most covers count adds one above below =
    let counted = counts_more first number saving others more most count adds in
    let within : one ≤ number = omega (arith, below, counted) in
    elim (eq-or-lt_of_le within) [
      | inl last ↦ newest one number saving others more most adds last
      | inr before ↦ older one number saving others more most adds (covers one above (omega (arith, before, count)))
    ]
