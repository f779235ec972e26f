-- Optional parameters, read one after the other.
use Rattle.std.proofs.Common.{◌≡◌, ℕ, zero, suc, ◌+◌, ◌^◌, ◌<◌, ◌≤◌, Bool, true, false, cond, ltb, List, [], ◌∷◌, ◌++◌, length, take, drop}
use Rattle.std.proofs.Common.{Option, Some, None, IsSome, is_some, option_map, option_and_then, Ok, Err, eqb, inl, inr, refl, sym, ap}
use Rattle.std.proofs.Common.{subst, ◌∙◌, arith, length-append, length-take, length-drop}
use Rattle.std.proofs.lemmas.Bool.{ltb-false, le-ltb, eqb-true, false≢true, cases_Bool}
use Rattle.std.proofs.lemmas.List.{append-nil, nil_from_length, take_at, drop_at, take-append-drop}
use Rattle.std.proofs.lemmas.Nat.{be_bytes_2, from_be_bytes-to_be_bytes_2}
use Rattle.std.specs.Int.{w16, from_be_bytes, to_be_bytes}
use Rattle.std.specs.List.{AllByRecursion}
use Rattle.octet_fields.specs.Texts.{IsOctets, IsTagged, AreParameters, optional_octets, tlv_octets}
use Rattle.octet_fields.specs.Reading.{tlv_at, tlv_before, tlvs_from, tlvs_or_defect, parameters_at}
use Rattle.octet_fields.specs.declared.defect.Defect.TheVariants.{Cut, Long}
use Rattle.octet_fields.proofs.Octets.{IsOctets-drop, guard_ok, ok_is}

pub guard_some : {A : Type 0} (b : Bool) (x y : A) → cond b None (Some x) ≡ Some y → (b ≡ false) × (x ≡ y)
guard_some true x y e = absurd cc
guard_some false x y e = (refl, cc)

-- the octets have those of the parameter and those behind it
pub tlv-length : (octets : List ℕ) (x : (ℕ × List ℕ) × List ℕ) → tlv_at octets ≡ Some x → length octets ≡ 4 + length x.0.1 + length x.1
unfolding tlv_at
tlv-length [] x e = absurd cc
tlv-length (a ∷ []) x e = absurd cc
tlv-length (a ∷ b ∷ []) x e = absurd cc
tlv-length (a ∷ b ∷ c ∷ []) x e = absurd cc
tlv-length (a ∷ b ∷ c ∷ d ∷ octets) x e =
    let count = from_be_bytes w16 (c ∷ d ∷ []) in
    let made : (ℕ × List ℕ) × List ℕ = ((from_be_bytes w16 (a ∷ b ∷ []), take count octets), drop count octets) in
    let g = guard_some (ltb (length octets) count) made x e in
    let long : count ≤ length octets = ltb-false _ _ g.0 in
    subst (λ (y : (ℕ × List ℕ) × List ℕ). length (a ∷ b ∷ c ∷ d ∷ octets) ≡ 4 + length y.0.1 + length y.1) g.1
    (omega (arith, length-take count octets, length-drop count octets))

then-same : {A B : Type 0} (f g : A → Option B) (o : Option A) → ((x : A) → o ≡ Some x → f x ≡ g x) → option_and_then f o ≡ option_and_then g o
then-same f g None same = refl
then-same f g (Some x) same = same x refl

-- as many as there are octets are enough
tlvs-enough : (m n : ℕ) (octets : List ℕ) → length octets ≤ m → length octets ≤ n → tlvs_from m octets ≡ tlvs_from n octets
unfolding tlvs_from
tlvs-enough zero zero octets a b = refl
tlvs-enough zero (suc n) [] a b = refl
tlvs-enough zero (suc n) (octet ∷ octets) a b = absurd (omega arith)
tlvs-enough (suc m) zero [] a b = refl
tlvs-enough (suc m) zero (octet ∷ octets) a b = absurd (omega arith)
tlvs-enough (suc m) (suc n) [] a b = refl
tlvs-enough (suc m) (suc n) (octet ∷ octets) a b =
    then-same (λ x. tlv_before x.0 (tlvs_from m x.1)) (λ x. tlv_before x.0 (tlvs_from n x.1)) (tlv_at (octet ∷ octets)) (λ x e.
    ap (tlv_before x.0) (tlvs-enough m n x.1 (omega (arith, tlv-length (octet ∷ octets) x e)) (omega (arith, tlv-length (octet ∷ octets) x e))))

-- the optional parameters that the octets are
abbrev pub tlvs_in : List ℕ → Option (List (ℕ × List ℕ))
tlvs_in octets = tlvs_from (length octets) octets

pub tlvs_in-next : (octets : List ℕ) (x : (ℕ × List ℕ) × List ℕ) → tlv_at octets ≡ Some x → tlvs_in octets ≡ tlv_before x.0 (tlvs_in x.1)
unfolding tlvs_from tlv_at
tlvs_in-next [] x e = absurd cc
tlvs_in-next (octet ∷ octets) x e =
    ap (option_and_then (λ y. tlv_before y.0 (tlvs_from (length octets) y.1))) e
    ∙ ap (tlv_before x.0) (tlvs-enough (length octets) (length x.1) x.1 (omega (arith, tlv-length (octet ∷ octets) x e)) (omega arith))

-- where no more can be read, none is left
pub tlvs_in-end : (octets : List ℕ) → tlv_at octets ≡ None → IsSome (tlvs_in octets) → octets ≡ []
unfolding tlvs_from
tlvs_in-end [] e some = refl
tlvs_in-end (octet ∷ octets) e some =
    absurd (false≢true (subst (λ o. IsSome (option_and_then (λ y. tlv_before y.0 (tlvs_from (length octets) y.1)) o)) e some))

is_some-map : {A B : Type 0} (f : A → B) (o : Option A) → is_some (option_map f o) ≡ is_some o
is_some-map f None = refl
is_some-map f (Some x) = refl

pub is_some-next : (octets : List ℕ) (x : (ℕ × List ℕ) × List ℕ) → tlv_at octets ≡ Some x → is_some (tlvs_in x.1) ≡ is_some (tlvs_in octets)
is_some-next octets x e =
    sym (ap is_some (tlvs_in-next octets x e) ∙ is_some-map (λ (tlvs : List (ℕ × List ℕ)). x.0 ∷ tlvs) (tlvs_in x.1))

pub parameters-cut : (most : ℕ) (octets rest : List ℕ) → length octets ≤ most → tlv_at rest ≡ None →
    is_some (tlvs_in rest) ≡ is_some (tlvs_in octets) → eqb (length rest) 0 ≡ false →
    parameters_at most octets ≡ Err Cut
unfolding parameters_at
parameters-cut most octets rest few end same more =
    let none : is_some (tlvs_in octets) ≡ false = elim (cases_Bool (is_some (tlvs_in octets))) [
      | inl true' ↦ absurd (false≢true (sym more ∙ ap (λ (r : List ℕ). eqb (length r) 0) (tlvs_in-end rest end (same ∙ true'))))
      | inr false' ↦ false'
    ] in
    rw (le-ltb most (length octets) few) (none-cut (tlvs_in octets) none)
  where
    none-cut : (o : Option (List (ℕ × List ℕ))) → is_some o ≡ false → tlvs_or_defect o ≡ Err Cut
    none-cut None e = refl
    none-cut (Some tlvs) e = absurd cc

pub parameters-whole : (most : ℕ) (octets rest : List ℕ) → length octets ≤ most → is_some (tlvs_in rest) ≡ is_some (tlvs_in octets) →
    eqb (length rest) 0 ≡ true →
    (tlvs : List (ℕ × List ℕ)) × (parameters_at most octets ≡ Ok (tlvs, []))
unfolding parameters_at tlvs_from
parameters-whole most octets rest few same empty =
    let some : is_some (tlvs_in octets) ≡ true = sym same ∙ ap (λ (r : List ℕ). is_some (tlvs_in r)) (nil_from_length rest (eqb-true _ _ empty)) in
    rw (le-ltb most (length octets) few) (ok-some (tlvs_in octets) some)
  where
    ok-some : (o : Option (List (ℕ × List ℕ))) → is_some o ≡ true → (tlvs : List (ℕ × List ℕ)) × (tlvs_or_defect o ≡ Ok (tlvs, []))
    ok-some None e = absurd cc
    ok-some (Some tlvs) e = (tlvs, refl)

-- ---- what is read is spelled so, and what is spelled so is read

two_octets : (a b : ℕ) → a < 256 → b < 256 → IsOctets (a ∷ b ∷ [])
two_octets a b p q zero = p
two_octets a b p q (suc zero) = q
two_octets a b p q (suc (suc i)) = omega arith

two_again : (a b : ℕ) → a < 256 → b < 256 → to_be_bytes w16 (from_be_bytes w16 (a ∷ b ∷ [])) ≡ a ∷ b ∷ []
two_again a b p q = be_bytes_2 (a ∷ b ∷ []) _ refl (two_octets a b p q) refl

pub record TakesTlv (octets : List ℕ) (x : (ℕ × List ℕ) × List ℕ) : Type 0 where
  pub parts : octets ≡ tlv_octets x.0 ++ x.1
  pub rest : IsOctets x.1
  pub tag : IsTagged x.0

tlv_takes : (octets : List ℕ) (x : (ℕ × List ℕ) × List ℕ) → IsOctets octets → tlv_at octets ≡ Some x → TakesTlv octets x
unfolding tlv_at
tlv_takes [] x are e = absurd cc
tlv_takes (a ∷ []) x are e = absurd cc
tlv_takes (a ∷ b ∷ []) x are e = absurd cc
tlv_takes (a ∷ b ∷ c ∷ []) x are e = absurd cc
tlv_takes (a ∷ b ∷ c ∷ d ∷ octets) x are e =
    let tag = from_be_bytes w16 (a ∷ b ∷ []) in
    let count = from_be_bytes w16 (c ∷ d ∷ []) in
    let made : (ℕ × List ℕ) × List ℕ = ((tag, take count octets), drop count octets) in
    let g = guard_some (ltb (length octets) count) made x e in
    let long : count ≤ length octets = ltb-false _ _ g.0 in
    let size : length (take count octets) ≡ count = omega (arith, length-take count octets) in
    let tag_is : to_be_bytes w16 tag ≡ a ∷ b ∷ [] = two_again a b (are 0) (are 1) in
    let count_is : to_be_bytes w16 (length (take count octets)) ≡ c ∷ d ∷ [] = ap (to_be_bytes w16) size ∙ two_again c d (are 2) (are 3) in
    let whole : a ∷ b ∷ c ∷ d ∷ octets ≡ tlv_octets made.0 ++ made.1 =
    ap (λ (rest : List ℕ). a ∷ b ∷ c ∷ d ∷ rest) (sym (take-append-drop count octets))
    ∙ ap (λ (front : List ℕ). (front ++ take count octets) ++ drop count octets)
    (sym (ap (λ (t : List ℕ). t ++ to_be_bytes w16 (length (take count octets))) tag_is ∙ ap (λ (n : List ℕ). (a ∷ b ∷ []) ++ n) count_is)) in
    let tagged : tag < 2 ^ 16 = omega (arith, two_octets a b (are 0) (are 1) 0, two_octets a b (are 0) (are 1) 1) in
    subst (λ (y : (ℕ × List ℕ) × List ℕ). TakesTlv (a ∷ b ∷ c ∷ d ∷ octets) y) g.1
    (record { parts = whole; rest = IsOctets-drop count octets (λ i. are (suc (suc (suc (suc i))))); tag = tagged })

pub tlv_again : (tlv : ℕ × List ℕ) (rest : List ℕ) → IsTagged tlv → length tlv.1 < 2 ^ 16 → tlv_at (tlv_octets tlv ++ rest) ≡ Some (tlv, rest)
unfolding tlv_at
tlv_again tlv rest tagged short =
    let value = tlv.1 in
    let count : from_be_bytes w16 (to_be_bytes w16 (length value)) ≡ length value = from_be_bytes-to_be_bytes_2 (length value) short in
    let tag : from_be_bytes w16 (to_be_bytes w16 tlv.0) ≡ tlv.0 = from_be_bytes-to_be_bytes_2 tlv.0 tagged in
    let read : ℕ → ℕ → Option ((ℕ × List ℕ) × List ℕ) = λ t n. cond (ltb (length (value ++ rest)) n) None
    (Some ((t, take n (value ++ rest)), drop n (value ++ rest))) in
    ap (read (from_be_bytes w16 (to_be_bytes w16 tlv.0))) count
    ∙ ap (λ (t : ℕ). read t (length value)) tag
    ∙ rw (
      le-ltb (length (value ++ rest)) (length value) (omega (arith, length-append value rest)),
      take_at value rest (length value) refl,
      drop_at value rest (length value) refl,
    ) refl

pub record TakesTlvs (octets : List ℕ) (tlvs : List (ℕ × List ℕ)) : Type 0 where
  pub parts : octets ≡ optional_octets tlvs
  pub tags : AllByRecursion IsTagged tlvs

tlvs_take : (most : ℕ) (octets : List ℕ) (tlvs : List (ℕ × List ℕ)) → IsOctets octets → tlvs_from most octets ≡ Some tlvs → TakesTlvs octets tlvs
unfolding tlvs_from
tlvs_take zero [] tlvs are e = none tlvs e
  where
    none : (tlvs : List (ℕ × List ℕ)) → ◌≡◌ {A = Option (List (ℕ × List ℕ))} (Some []) (Some tlvs) → TakesTlvs [] tlvs
    none [] e = record { parts = refl; tags = tt }
    none (tlv ∷ tlvs) e = absurd cc
tlvs_take (suc most) [] tlvs are e = none tlvs e
  where
    none : (tlvs : List (ℕ × List ℕ)) → ◌≡◌ {A = Option (List (ℕ × List ℕ))} (Some []) (Some tlvs) → TakesTlvs [] tlvs
    none [] e = record { parts = refl; tags = tt }
    none (tlv ∷ tlvs) e = absurd cc
tlvs_take zero (octet ∷ octets) tlvs are e = absurd cc
tlvs_take (suc most) (octet ∷ octets) tlvs are e = first (λ rest others fits rest_is. tlvs_take most rest others fits rest_is) (tlv_at (octet ∷ octets)) refl e
  where
    others_of : (x : (ℕ × List ℕ) × List ℕ) (others : Option (List (ℕ × List ℕ))) → TakesTlv (octet ∷ octets) x →
        ((ys : List (ℕ × List ℕ)) → others ≡ Some ys → TakesTlvs x.1 ys) → tlv_before x.0 others ≡ Some tlvs →
        TakesTlvs (octet ∷ octets) tlvs
    others_of x None taken rest e = absurd cc
    others_of x (Some ys) taken rest e =
        let both : x.0 ∷ ys ≡ tlvs = cc in
        let behind = rest ys refl in
        subst (λ (zs : List (ℕ × List ℕ)). TakesTlvs (octet ∷ octets) zs) both
        (record { parts = taken.parts ∙ ap (λ (r : List ℕ). tlv_octets x.0 ++ r) behind.parts; tags = (taken.tag, behind.tags) })

    first : ((rest : List ℕ) (others : List (ℕ × List ℕ)) → IsOctets rest → tlvs_from most rest ≡ Some others → TakesTlvs rest others) →
        (o : Option ((ℕ × List ℕ) × List ℕ)) → tlv_at (octet ∷ octets) ≡ o →
        option_and_then (λ x. tlv_before x.0 (tlvs_from most x.1)) o ≡ Some tlvs →
        TakesTlvs (octet ∷ octets) tlvs
    first rests None is e = absurd cc
    first rests (Some x) is e =
        let taken = tlv_takes (octet ∷ octets) x are is in
        others_of x (tlvs_from most x.1) taken (λ ys rest_is. rests x.1 ys taken.rest rest_is) e

tlvs_again : (tlvs : List (ℕ × List ℕ)) → AllByRecursion IsTagged tlvs → length (optional_octets tlvs) ≤ 65535 → tlvs_in (optional_octets tlvs) ≡ Some tlvs
unfolding tlvs_from
tlvs_again [] tags most = refl
tlvs_again (tlv ∷ tlvs) tags most =
    let behind : List ℕ = optional_octets tlvs in
    let size : length (optional_octets (tlv ∷ tlvs)) ≡ 4 + length tlv.1 + length behind =
    omega (arith, length-append (tlv_octets tlv) behind, length-append (to_be_bytes w16 tlv.0 ++ to_be_bytes w16 (length tlv.1)) tlv.1) in
    let others = tlvs_again tlvs tags.1 (omega (arith, size, most)) in
    tlvs_in-next (tlv_octets tlv ++ behind) (tlv, behind) (tlv_again tlv behind tags.0 (omega (arith, size, most))) ∙ ap (tlv_before tlv) others

pub record TakesParameters (most : ℕ) (octets : List ℕ) (x : List (ℕ × List ℕ) × List ℕ) : Type 0 where
  pub parts : octets ≡ optional_octets x.0 ++ x.1
  pub rest : x.1 ≡ []
  pub within : AreParameters most x.0

pub parameters_take : (most : ℕ) (octets : List ℕ) (x : List (ℕ × List ℕ) × List ℕ) → IsOctets octets → parameters_at most octets ≡ Ok x →
    TakesParameters most octets x
unfolding parameters_at
parameters_take most octets x are e =
    let few = guard_ok (ltb most (length octets)) Long (tlvs_or_defect (tlvs_in octets)) x e in
    whole (tlvs_in octets) refl few.1 (ltb-false _ _ few.0)
  where
    whole : (tlvs : Option (List (ℕ × List ℕ))) → tlvs_in octets ≡ tlvs → tlvs_or_defect tlvs ≡ Ok x → length octets ≤ most → TakesParameters most octets x
    whole None is e few = absurd cc
    whole (Some tlvs) is e few =
        let taken = tlvs_take (length octets) octets tlvs are is in
        let made : List (ℕ × List ℕ) × List ℕ = (tlvs, []) in
        subst (λ (y : List (ℕ × List ℕ) × List ℕ). TakesParameters most octets y) (ok_is made x e) (record {
          parts = taken.parts ∙ sym (append-nil (optional_octets tlvs));
          rest = refl;
          within = record { tags = taken.tags; most = omega (arith, few, ap length taken.parts) };
        })

pub parameters_again : (most : ℕ) (tlvs : List (ℕ × List ℕ)) → most ≤ 65535 → AreParameters most tlvs →
    parameters_at most (optional_octets tlvs) ≡ Ok (tlvs, [])
unfolding parameters_at
parameters_again most tlvs small are =
    rw (le-ltb most (length (optional_octets tlvs)) are.most, tlvs_again tlvs are.tags (omega (arith, small, are.most))) refl
