-- Requests by ascending tickets, and acts by falling keys.
use Rattle.std.proofs.Common.{◌≡◌, ◌⊎◌, ℕ, ◌<◌, List, [], ◌∷◌, ◌++◌, map, refl, sym, ap, subst, ◌∙◌, inl, inr, arith}
use Rattle.std.specs.Prelude.{reverse}
use Rattle.std.specs.Ordering.{nat_cmp}
use Rattle.std.specs.declared.cmp.Ordering.TheVariants.{Less}
use Rattle.std.specs.List.{AllByRecursion}
use Rattle.std.specs.List.Sorted.{IsStrictlyIncreasing, IsStrictlySortedBy}
use Rattle.std.proofs.lemmas.Bool.Decides.{nat_tests}
use Rattle.std.proofs.lemmas.Grind.{reverse_onto}
use Rattle.std.proofs.lemmas.List.{map-append}
use Rattle.std.proofs.lemmas.Map.Keys.{IsStrictlyIncreasing-from_sorted, sorted_from_strictly_increasing}
use Rattle.mc_model.specs.synod.Lists.{In}
use Rattle.mc_model.specs.node.Act.{Act}
use Rattle.mc_model.specs.node.Due.{Fall, key_of}
use Rattle.mc_parts.proofs.Membership.{in_either}
use Rattle.node_model.specs.Kept.{Held}
use Rattle.node_model.specs.Requests.{Ascend, IsBelow, ticket_of}

-- ---- lists

pub record IsOf {A B : Type 0} (f : A → B) (xs : List A) (y : B) : Type 0 where
  pub from : A
  pub among : In from xs
  pub is : y ≡ f from

pub in_mapped : {A B : Type 0} (f : A → B) (xs : List A) (y : B) → In y (map f xs) → IsOf f xs y
in_mapped f [] y none = absurd none
in_mapped f (x ∷ xs) y (inl same) = record { from = x; among = inl refl; is = same }
in_mapped f (x ∷ xs) y (inr later) = let it = in_mapped f xs y later in record { from = it.from; among = inr it.among; is = it.is }

pub mapped_in : {A B : Type 0} (f : A → B) (xs : List A) (x : A) → In x xs → In (f x) (map f xs)
mapped_in f [] x none = none
mapped_in f (first ∷ xs) x (inl same) = inl (ap f same)
mapped_in f (first ∷ xs) x (inr later) = inr (mapped_in f xs x later)

reverse_first : {A : Type 0} (x : A) (xs : List A) → reverse (x ∷ xs) ≡ reverse xs ++ x ∷ []
reverse_first x xs = reverse_onto xs x []

pub in_append : {A : Type 0} (x : A) (front back : List A) → In x front ⊎ In x back → In x (front ++ back)
in_append x [] back (inl none) = absurd none
in_append x [] back (inr is_in) = is_in
in_append x (y ∷ front) back (inl (inl same)) = inl same
in_append x (y ∷ front) back (inl (inr later)) = inr (in_append x front back (inl later))
in_append x (y ∷ front) back (inr is_in) = inr (in_append x front back (inr is_in))

pub in_reverse : {A : Type 0} (x : A) (xs : List A) → In x (reverse xs) → In x xs
in_reverse x [] none = none
in_reverse x (y ∷ xs) is_in = elim (in_either x (reverse xs) (y ∷ []) (subst (In x) (reverse_first y xs) is_in)) [
  | inl later ↦ inr (in_reverse x xs later)
  | inr last ↦ elim last [ inl same ↦ inl same | inr none ↦ absurd none ]
]

pub reverse_in : {A : Type 0} (x : A) (xs : List A) → In x xs → In x (reverse xs)
reverse_in x [] none = none
reverse_in x (y ∷ xs) (inl same) = subst (In x) (sym (reverse_first y xs)) (in_append x (reverse xs) (y ∷ []) (inr (inl same)))
reverse_in x (y ∷ xs) (inr later) = subst (In x) (sym (reverse_first y xs)) (in_append x (reverse xs) (y ∷ []) (inl (reverse_in x xs later)))

-- ---- numbers that fall

-- those of the front are above those of the back
pub fall_join : (front back : List ℕ) → Fall front → Fall back → ((high low : ℕ) → In high front → In low back → low < high) → Fall (front ++ back)
fall_join [] back falls after apart = after
fall_join (x ∷ []) [] falls after apart = tt
fall_join (x ∷ []) (y ∷ back) falls after apart = (apart x y (inl refl) (inl refl), after)
fall_join (x ∷ next ∷ front) back falls after apart =
    (falls.0, fall_join (next ∷ front) back falls.1 after (λ high low above below. apart high low (inr above) below))

-- ---- tickets

-- a ticket below those of requests is below that of each
pub below_in : (ticket : ℕ) (held : List Held) → IsBelow ticket held → (h : Held) → In h held → ticket < ticket_of h
below_in ticket [] below h none = absurd none
below_in ticket (first ∷ others) below h (inl same) = subst (λ (x : Held). ticket < ticket_of x) (sym same) below.0
below_in ticket (first ∷ others) below h (inr later) = below_in ticket others below.1 h later

pub in_below : (ticket : ℕ) (held : List Held) → ((h : Held) → In h held → ticket < ticket_of h) → IsBelow ticket held
in_below ticket [] each = tt
in_below ticket (first ∷ others) each = (each first (inl refl), in_below ticket others (λ h later. each h (inr later)))

all_below : (ticket : ℕ) (held : List Held) → AllByRecursion (λ (other : ℕ). nat_cmp ticket other ≡ Less) (map ticket_of held) → (h : Held) → In h held →
    ticket < ticket_of h
all_below ticket [] all h none = absurd none
all_below ticket (first ∷ others) all h (inl same) =
    let below : ticket < ticket_of first = grind (arith, nat_tests) in subst (λ (x : Held). ticket < ticket_of x) (sym same) below
all_below ticket (first ∷ others) all h (inr later) = all_below ticket others all.1 h later

below_all : (ticket : ℕ) (held : List Held) → ((h : Held) → In h held → ticket < ticket_of h) →
    AllByRecursion (λ (other : ℕ). nat_cmp ticket other ≡ Less) (map ticket_of held)
below_all ticket [] below = tt
below_all ticket (first ∷ others) below =
    let first_below = below first (inl refl) in (grind (arith, nat_tests), below_all ticket others (λ h later. below h (inr later)))

sorted_ascends : (held : List Held) → IsStrictlySortedBy nat_cmp (map ticket_of held) → Ascend held
unfolding IsStrictlySortedBy
sorted_ascends [] sorted = tt
sorted_ascends (h ∷ others) sorted = (in_below (ticket_of h) others (all_below (ticket_of h) others sorted.0), sorted_ascends others sorted.1)

ascends_sorted : (held : List Held) → Ascend held → IsStrictlySortedBy nat_cmp (map ticket_of held)
unfolding IsStrictlySortedBy
ascends_sorted [] ascends = tt
ascends_sorted (h ∷ others) ascends = (below_all (ticket_of h) others (below_in (ticket_of h) others ascends.0), ascends_sorted others ascends.1)

pub ascend_from : (held : List Held) → IsStrictlyIncreasing (map ticket_of held) → Ascend held
ascend_from held rises = sorted_ascends held (sorted_from_strictly_increasing (map ticket_of held) rises)

pub increasing_from : (held : List Held) → Ascend held → IsStrictlyIncreasing (map ticket_of held)
increasing_from held ascends = IsStrictlyIncreasing-from_sorted (map ticket_of held) (ascends_sorted held ascends)

-- a ticket is of one request
pub one_of_ticket : (held : List Held) → Ascend held → (one other : Held) → In one held → In other held → ticket_of one ≡ ticket_of other → one ≡ other
one_of_ticket [] ascends one other none among same = absurd none
one_of_ticket (h ∷ others) ascends one other (inl first) (inl second) same = first ∙ sym second
one_of_ticket (h ∷ others) ascends one other (inl first) (inr later) same =
    let below = below_in (ticket_of h) others ascends.0 other later in let at = ap ticket_of first in absurd (omega arith)
one_of_ticket (h ∷ others) ascends one other (inr later) (inl second) same =
    let below = below_in (ticket_of h) others ascends.0 one later in let at = ap ticket_of second in absurd (omega arith)
one_of_ticket (h ∷ others) ascends one other (inr later) (inr beyond) same = one_of_ticket others ascends.1 one other later beyond same

-- acts by ascending tickets, the newest first
pub acts_fall : (act : Held → Act) → ((h : Held) → key_of (act h) ≡ ticket_of h) → (held : List Held) → Ascend held → Fall (map key_of (reverse (map act held)))
acts_fall act keys [] ascends = tt
acts_fall act keys (h ∷ others) ascends =
    subst (λ (acts : List Act). Fall (map key_of acts)) (sym (reverse_first (act h) (map act others)))
    (subst Fall (sym (map-append key_of (reverse (map act others)) (act h ∷ [])))
    (fall_join (map key_of (reverse (map act others))) (key_of (act h) ∷ []) (acts_fall act keys others ascends.1) tt apart))
  where
    apart : (high low : ℕ) → In high (map key_of (reverse (map act others))) → In low (key_of (act h) ∷ []) → low < high
    apart high low above (inr none) = absurd none
    apart high low above (inl same) =
        let it = in_mapped key_of (reverse (map act others)) high above in
        let of = in_mapped act others it.from (in_reverse it.from (map act others) it.among) in
        let below = below_in (ticket_of h) others ascends.0 of.from of.among in
        let key_high : high ≡ ticket_of of.from = it.is ∙ ap key_of of.is ∙ keys of.from in
        let key_low : low ≡ ticket_of h = same ∙ keys h in
        omega arith
