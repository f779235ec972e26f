-- Optional parameters: those that octets are, one more, one after the other, and those that pass a test.
use Rattle.std.proofs.Common.{◌≡◌, ℕ, ◌+◌, ◌≤◌, ◌==◌, Bool, true, false, cond, eqb, List, [], ◌∷◌, ◌++◌, length, Option, Some, None}
use Rattle.std.proofs.Common.{option_map, append_assoc, Result, Ok, Err, IsOk, is_ok, OnOk, OnErr, refl, sym, subst, ◌∙◌, ap, arith}
use Rattle.std.proofs.Common.{length-append}
use Rattle.std.specs.Bool.{Decides}
use Rattle.std.specs.Str.{bytes_eq}
use Rattle.std.specs.Ordering.{on, eq_of_both}
use Rattle.std.specs.List.{filter, find, AllByRecursion}
use Rattle.std.specs.Int.{w16, to_be_bytes}
use Rattle.std.proofs.lemmas.List.{append-nil}
use Rattle.std.proofs.lemmas.List.Concat.{flat_map-append}
use Rattle.std.proofs.lemmas.Bool.{false≢true}
use Rattle.std.proofs.lemmas.Bool.Decides.{Decides-and, Decides-eqb, Decides-like, same_from_decides}
use Rattle.std.proofs.lemmas.Slice.Eq.{bytes_eq-Decides, slice_eq-Decides}
use Rattle.octet_fields.specs.declared.defect.Defect.{Defect}
use Rattle.octet_fields.specs.Reading.{told, content_at, parameters_at, tlv_at}
use Rattle.octet_fields.proofs.Parameters.{parameters_take, parameters_again, tlv_again}
use Rattle.pdu_fields.specs.Grammar.{parameters_fault, optional_at}
use Rattle.pdu_fields.specs.Text.{IsOctets, AreOptional, IsTagged, tlv_octets, optional_octets, are_same_tlvs}
use Rattle.pdu_fields.specs.Tlv.{AreTlvs, first_of, tlvs_in, value_of}

-- the octets of optional parameters that are within their limits
pub record IsOptional (octets : List ℕ) : Type 0 where
  pub tlvs : List (ℕ × List ℕ)
  pub limits : AreOptional tlvs
  pub spelled : octets ≡ optional_octets tlvs

pub optional-given : (octets : List ℕ) → IsOctets octets → IsOk (optional_at octets) → IsOptional octets
unfolding content_at
optional-given octets are ok = by (parameters_at 7000 octets) refl ok
  where
    by : (r : Result (List (ℕ × List ℕ) × List ℕ) Defect) → parameters_at 7000 octets ≡ r → IsOk (told parameters_fault r) → IsOptional octets
    by (Ok x) is ok =
        let taken = parameters_take 7000 octets x are is in
        record {
          tlvs = x.0;
          limits = taken.within;
          spelled = taken.parts ∙ ap (λ (rest : List ℕ). optional_octets x.0 ++ rest) taken.rest
              ∙ append-nil (optional_octets x.0);
        }
    by (Err defect) is ok = absurd (false≢true ok)

pub optional-again : (tlvs : List (ℕ × List ℕ)) → AreOptional tlvs → optional_at (optional_octets tlvs) ≡ Ok (tlvs, [])
unfolding content_at
optional-again tlvs are = ap (told parameters_fault) (parameters_again 7000 tlvs (omega arith) are)

-- ---- octets that are optional parameters

pub tlvs_in-octets : (tlvs : List (ℕ × List ℕ)) → AreOptional tlvs → tlvs_in (optional_octets tlvs) ≡ tlvs
unfolding tlvs_in
tlvs_in-octets tlvs are = ap first_of (optional-again tlvs are)

pub are_tlvs : (tlvs : List (ℕ × List ℕ)) → AreOptional tlvs → AreTlvs (optional_octets tlvs)
are_tlvs tlvs are = record {
  limits = subst AreOptional (sym (tlvs_in-octets tlvs are)) are;
  spelled = ap optional_octets (sym (tlvs_in-octets tlvs are));
}

pub tlvs-given : (octets : List ℕ) → IsOctets octets → IsOk (optional_at octets) → AreTlvs octets
tlvs-given octets are ok =
    let is = optional-given octets are ok in
    subst AreTlvs (sym is.spelled) (are_tlvs is.tlvs is.limits)

pub tlvs-read : (octets : List ℕ) → AreTlvs octets → optional_at octets ≡ Ok (tlvs_in octets, [])
tlvs-read octets are = ap optional_at are.spelled ∙ optional-again (tlvs_in octets) are.limits

pub octets-few : (octets : List ℕ) → AreTlvs octets → length octets ≤ 7000
octets-few octets are = omega (arith, are.limits.most, ap length are.spelled)

-- no two lists of them have the same octets
pub octets-same : (one other : List (ℕ × List ℕ)) → AreOptional one → AreOptional other → optional_octets one ≡ optional_octets other → one ≡ other
octets-same one other one_are other_are same = sym (tlvs_in-octets one one_are) ∙ ap tlvs_in same ∙ tlvs_in-octets other other_are

pair_decides : (a b : ℕ × List ℕ) → Decides (eq_of_both (on (λ tlv. tlv.0) ◌==◌) (on (λ tlv. tlv.1) bytes_eq) a b) (a ≡ b)
pair_decides a b =
    Decides-like _ (λ (h : (a.0 ≡ b.0) × (a.1 ≡ b.1)). λ i. (h.0 i, h.1 i))
    (λ (h : a ≡ b). (ap (λ (x : ℕ × List ℕ). x.0) h, ap (λ (x : ℕ × List ℕ). x.1) h))
    (Decides-and (eqb a.0 b.0) (bytes_eq a.1 b.1) (Decides-eqb a.0 b.0) (bytes_eq-Decides a.1 b.1))

-- the test of two lists of optional parameters is whether they are one
pub tlvs_decide : (one other : List (ℕ × List ℕ)) → Decides (are_same_tlvs one other) (one ≡ other)
tlvs_decide one other = slice_eq-Decides pair_decides one other (are_same_tlvs one other) refl

-- optional parameters are the same that have the same octets
pub same-octets : (one other : List ℕ) → AreTlvs one → AreTlvs other → bytes_eq one other ≡ are_same_tlvs (tlvs_in one) (tlvs_in other)
same-octets one other one_are other_are =
    let tlvs = tlvs_decide (tlvs_in one) (tlvs_in other) in
    let octets = Decides-like (bytes_eq one other) (λ (same : one ≡ other). ap tlvs_in same)
    (λ (same : tlvs_in one ≡ tlvs_in other). one_are.spelled ∙ ap optional_octets same ∙ sym other_are.spelled) (bytes_eq-Decides one other) in
    same_from_decides (bytes_eq one other) (are_same_tlvs (tlvs_in one) (tlvs_in other)) octets tlvs

-- ---- one more

tags-more : (tlvs : List (ℕ × List ℕ)) (tlv : ℕ × List ℕ) → AllByRecursion IsTagged tlvs → IsTagged tlv → AllByRecursion IsTagged (tlvs ++ tlv ∷ [])
tags-more [] tlv tags tag = (tag, tt)
tags-more (first ∷ tlvs) tlv tags tag = (tags.0, tags-more tlvs tlv tags.1 tag)

octets-more : (tlvs : List (ℕ × List ℕ)) (tlv : ℕ × List ℕ) → optional_octets (tlvs ++ tlv ∷ []) ≡ optional_octets tlvs ++ tlv_octets tlv
octets-more tlvs tlv =
    flat_map-append tlv_octets tlvs (tlv ∷ []) ∙ ap (λ (last : List ℕ). optional_octets tlvs ++ last) (append-nil (tlv_octets tlv))

AreOptional-more : (tlvs : List (ℕ × List ℕ)) (tlv : ℕ × List ℕ) → AreOptional tlvs → IsTagged tlv →
    length (optional_octets tlvs) + 4 + length tlv.1 ≤ 7000 →
    AreOptional (tlvs ++ tlv ∷ [])
AreOptional-more tlvs tlv are tag few = record {
  tags = tags-more tlvs tlv are.tags tag;
  most = omega (
    arith,
    few,
    ap length (octets-more tlvs tlv),
    length-append (optional_octets tlvs) (tlv_octets tlv),
    length-append
        (to_be_bytes w16 tlv.0 ++ to_be_bytes w16 (length tlv.1)) tlv.1,
  );
}

-- what octets are with one more behind them
pub record More (octets : List ℕ) (tlv : ℕ × List ℕ) : Type 0 where
  pub are : AreTlvs (octets ++ tlv_octets tlv)
  pub tlvs : tlvs_in (octets ++ tlv_octets tlv) ≡ tlvs_in octets ++ tlv ∷ []

pub tlvs-more : (octets : List ℕ) (tlv : ℕ × List ℕ) → AreTlvs octets → IsTagged tlv →
    length (optional_octets (tlvs_in octets)) + 4 + length tlv.1 ≤ 7000 →
    More octets tlv
tlvs-more octets tlv are tag few =
    let tlvs = tlvs_in octets in
    let limits = AreOptional-more tlvs tlv are.limits tag few in
    let whole : optional_octets (tlvs ++ tlv ∷ []) ≡ octets ++ tlv_octets tlv = octets-more tlvs tlv ∙ ap
    (λ (front : List ℕ). front ++ tlv_octets tlv) (sym are.spelled) in
    record {
      are = subst AreTlvs whole (are_tlvs (tlvs ++ tlv ∷ []) limits);
      tlvs = ap tlvs_in (sym whole) ∙ tlvs_in-octets (tlvs ++ tlv ∷ []) limits;
    }

-- ---- others behind them

tags-joined : (tlvs others : List (ℕ × List ℕ)) → AllByRecursion IsTagged tlvs → AllByRecursion IsTagged others → AllByRecursion IsTagged (tlvs ++ others)
tags-joined [] others tags also = also
tags-joined (first ∷ tlvs) others tags also = (tags.0, tags-joined tlvs others tags.1 also)

-- what octets are with those of others behind them
pub record Joined (octets others : List ℕ) : Type 0 where
  pub are : AreTlvs (octets ++ others)
  pub tlvs : tlvs_in (octets ++ others) ≡ tlvs_in octets ++ tlvs_in others

pub tlvs-joined : (octets others : List ℕ) → AreTlvs octets → AreTlvs others →
    length (optional_octets (tlvs_in octets)) + length (optional_octets (tlvs_in others)) ≤ 7000 →
    Joined octets others
tlvs-joined octets others are also few =
    let all : List (ℕ × List ℕ) = tlvs_in octets ++ tlvs_in others in
    let parts : optional_octets all ≡ optional_octets (tlvs_in octets) ++ optional_octets (tlvs_in others) =
    flat_map-append tlv_octets (tlvs_in octets) (tlvs_in others) in
    let limits : AreOptional all = record {
      tags = tags-joined (tlvs_in octets) (tlvs_in others) are.limits.tags also.limits.tags;
      most = omega (arith, few, ap length parts, length-append (optional_octets (tlvs_in octets)) (optional_octets (tlvs_in others)));
    } in
    let whole : optional_octets all ≡ octets ++ others = parts ∙ ap (λ (front : List ℕ). front ++ optional_octets (tlvs_in others)) (sym are.spelled)
    ∙ ap (λ (back : List ℕ). octets ++ back) (sym also.spelled) in
    record {
      are = subst AreTlvs whole (are_tlvs all limits);
      tlvs = ap tlvs_in (sym whole) ∙ tlvs_in-octets all limits;
    }

-- what a call leaves that put others behind octets, or changed nothing
module _ (old : List ℕ) (others : List (ℕ × List ℕ)) (new : List ℕ) (are : AreTlvs old) (also : AreOptional others)
    (few : length (optional_octets (tlvs_in old)) + length (optional_octets others) ≤ 7000) where
  joined : Joined old (optional_octets others)
  joined = tlvs-joined old (optional_octets others) are (are_tlvs others also)
      (subst (λ (tlvs : List (ℕ × List ℕ)). length (optional_octets (tlvs_in old)) + length (optional_octets tlvs) ≤ 7000) (sym (tlvs_in-octets others also)) few)

  pub tlvs-behind : {E : Type 0} (r : Result (Unit {0}) E) → new ≡ cond (is_ok r) (old ++ optional_octets others) old → AreTlvs new
  tlvs-behind (Ok x) is = subst AreTlvs (sym is) joined.are
  tlvs-behind (Err e) is = subst AreTlvs (sym is) are

  pub behind-is : {E : Type 0} (r : Result (Unit {0}) E) → new ≡ cond (is_ok r) (old ++ optional_octets others) old → OnOk r (tlvs_in new ≡ tlvs_in old ++ others)
  behind-is (Ok x) is = ap tlvs_in is ∙ joined.tlvs ∙ ap (λ (tlvs : List (ℕ × List ℕ)). tlvs_in old ++ tlvs) (tlvs_in-octets others also)
  behind-is (Err e) is = tt

-- if a call put one more behind octets, or changed nothing, they are optional parameters still
pub tlvs-after : {E : Type 0} (r : Result (Unit {0}) E) (old new : List ℕ) (tlv : ℕ × List ℕ) → More old tlv → AreTlvs old →
    OnOk r (new ≡ old ++ tlv_octets tlv) → OnErr r (new ≡ old) →
    AreTlvs new
tlvs-after (Ok x) old new tlv more are ok err = subst AreTlvs (sym ok) more.are
tlvs-after (Err e) old new tlv more are ok err = subst AreTlvs (sym err) are

-- ---- one after the other

-- the first of optional parameters, and those behind it
pub record Next (octets : List ℕ) (x : (ℕ × List ℕ) × List ℕ) : Type 0 where
  pub behind : AreTlvs x.1
  pub tlvs : tlvs_in octets ≡ x.0 ∷ tlvs_in x.1

AreOptional-behind : (tlv : ℕ × List ℕ) (tlvs : List (ℕ × List ℕ)) → AreOptional (tlv ∷ tlvs) → AreOptional tlvs
AreOptional-behind tlv tlvs are = record { tags = are.tags.1; most = omega (arith, are.most, length-append (tlv_octets tlv) (optional_octets tlvs)) }

tlv-first : (tlv : ℕ × List ℕ) (tlvs : List (ℕ × List ℕ)) → AreOptional (tlv ∷ tlvs) → tlv_at (optional_octets (tlv ∷ tlvs)) ≡ Some (tlv, optional_octets tlvs)
tlv-first tlv tlvs are =
    tlv_again tlv (optional_octets tlvs) are.tags.0
    (omega (
      arith,
      are.most,
      length-append (tlv_octets tlv) (optional_octets tlvs),
      length-append
          (to_be_bytes w16 tlv.0 ++ to_be_bytes w16 (length tlv.1)) tlv.1,
    ))

next_of : (tlvs : List (ℕ × List ℕ)) (x : (ℕ × List ℕ) × List ℕ) → AreOptional tlvs → tlv_at (optional_octets tlvs) ≡ Some x → Next (optional_octets tlvs) x
unfolding tlv_at
next_of [] x are e = absurd cc
next_of (tlv ∷ tlvs) x are e =
    let others = AreOptional-behind tlv tlvs are in
    let both : Some (tlv, optional_octets tlvs) ≡ Some x = sym (tlv-first tlv tlvs are) ∙ e in
    let same : (tlv, optional_octets tlvs) ≡ x = cc in
    subst (λ (y : (ℕ × List ℕ) × List ℕ). Next (optional_octets (tlv ∷ tlvs)) y) same (record {
      behind = are_tlvs tlvs others;
      tlvs = tlvs_in-octets (tlv ∷ tlvs) are ∙ ap (λ (o : List (ℕ × List ℕ)). tlv ∷ o) (sym (tlvs_in-octets tlvs others));
    })

pub tlvs-next : (octets : List ℕ) (x : (ℕ × List ℕ) × List ℕ) → AreTlvs octets → tlv_at octets ≡ Some x → Next octets x
tlvs-next octets x are e =
    subst (λ (o : List ℕ). Next o x) (sym are.spelled) (next_of (tlvs_in octets) x are.limits (ap tlv_at (sym are.spelled) ∙ e))

end_of : (tlvs : List (ℕ × List ℕ)) → AreOptional tlvs → tlv_at (optional_octets tlvs) ≡ None → tlvs ≡ []
end_of [] are e = refl
end_of (tlv ∷ tlvs) are e =
    let never : ◌≡◌ {A = Option ((ℕ × List ℕ) × List ℕ)} (Some (tlv, optional_octets tlvs)) None = sym (tlv-first tlv tlvs are) ∙ e in
    absurd cc

-- if no more can be read, none is left
pub tlvs-end : (octets : List ℕ) → AreTlvs octets → tlv_at octets ≡ None → tlvs_in octets ≡ []
tlvs-end octets are e = end_of (tlvs_in octets) are.limits (ap tlv_at (sym are.spelled) ∙ e)

-- ---- those that pass a test

tags-filter : (test : ℕ × List ℕ → Bool) (tlvs : List (ℕ × List ℕ)) → AllByRecursion IsTagged tlvs → AllByRecursion IsTagged (filter test tlvs)
tags-filter test [] tags = tt
tags-filter test (tlv ∷ tlvs) tags =
    elim (test tlv) as (λ t. AllByRecursion IsTagged (cond t (tlv ∷ filter test tlvs) (filter test tlvs))) [
      | true ↦ (tags.0, tags-filter test tlvs tags.1)
      | false ↦ tags-filter test tlvs tags.1
    ]

pub most-filter : (test : ℕ × List ℕ → Bool) (tlvs : List (ℕ × List ℕ)) → length (optional_octets (filter test tlvs)) ≤ length (optional_octets tlvs)
most-filter test [] = omega arith
most-filter test (tlv ∷ tlvs) =
    elim (test tlv) as (λ t. length (optional_octets (cond t (tlv ∷ filter test tlvs) (filter test tlvs))) ≤ length (optional_octets (tlv ∷ tlvs))) [
      | true ↦ omega (
        arith,
        most-filter test tlvs,
        length-append (tlv_octets tlv) (optional_octets (filter test tlvs)),
        length-append
            (tlv_octets tlv) (optional_octets tlvs),
      )
      | false ↦ omega (arith, most-filter test tlvs, length-append (tlv_octets tlv) (optional_octets tlvs))
    ]

-- those that pass a test are within the limits too
pub AreOptional-filter : (test : ℕ × List ℕ → Bool) (tlvs : List (ℕ × List ℕ)) → AreOptional tlvs → AreOptional (filter test tlvs)
AreOptional-filter test tlvs limits = record {
  tags = tags-filter test tlvs limits.tags;
  most = omega (arith, most-filter test tlvs, limits.most);
}

kept-next : (test : ℕ × List ℕ → Bool) (octets : List ℕ) (x : (ℕ × List ℕ) × List ℕ) → Next octets x →
    filter test (tlvs_in octets) ≡ cond (test x.0) (x.0 ∷ filter test (tlvs_in x.1)) (filter test (tlvs_in x.1))
kept-next test octets x next = ap (filter test) next.tlvs

-- of the octets of what passes, those so far and those of what is left
pub kept-more : (test : ℕ × List ℕ → Bool) (kept octets all : List ℕ) (x : (ℕ × List ℕ) × List ℕ) → Next octets x → test x.0 ≡ true →
    kept ++ optional_octets (filter test (tlvs_in octets)) ≡ all →
    (kept ++ tlv_octets x.0) ++ optional_octets (filter test (tlvs_in x.1)) ≡ all
kept-more test kept octets all x next passes before =
    let others : List (ℕ × List ℕ) = filter test (tlvs_in x.1) in
    append_assoc kept (tlv_octets x.0) (optional_octets others)
    ∙ ap (λ (tlvs : List (ℕ × List ℕ)). kept ++ optional_octets tlvs) (sym (kept-next test octets x next ∙ ap (λ b. cond b (x.0 ∷ others) others) passes))
    ∙ before

pub kept-same : (test : ℕ × List ℕ → Bool) (kept octets all : List ℕ) (x : (ℕ × List ℕ) × List ℕ) → Next octets x → test x.0 ≡ false →
    kept ++ optional_octets (filter test (tlvs_in octets)) ≡ all →
    kept ++ optional_octets (filter test (tlvs_in x.1)) ≡ all
kept-same test kept octets all x next fails before =
    let others : List (ℕ × List ℕ) = filter test (tlvs_in x.1) in
    ap (λ (tlvs : List (ℕ × List ℕ)). kept ++ optional_octets tlvs) (sym (kept-next test octets x next ∙ ap (λ b. cond b (x.0 ∷ others) others) fails))
    ∙ before

-- the value is that of the first, or is looked for behind it
pub value-next : (tag : ℕ) (octets : List ℕ) (x : (ℕ × List ℕ) × List ℕ) → Next octets x →
    value_of tag (tlvs_in octets) ≡ cond (eqb x.0.0 tag) (Some x.0.1) (value_of tag (tlvs_in x.1))
value-next tag octets x next = ap (value_of tag) next.tlvs ∙ by (eqb x.0.0 tag) (find (λ tlv. eqb tlv.0 tag) (tlvs_in x.1))
  where
    by : (b : Bool) (o : Option (ℕ × List ℕ)) → option_map (λ tlv. tlv.1) (cond b (Some x.0) o) ≡ cond b (Some x.0.1) (option_map (λ tlv. tlv.1) o)
    by true o = refl
    by false o = refl
