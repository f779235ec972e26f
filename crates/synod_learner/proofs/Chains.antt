-- The chain of a message in a list of chains, of which no two are of one message.
use Rattle.std.proofs.Common.{◌≡◌, ◌⊎◌, ℕ, zero, suc, ◌+◌, ◌<◌, Bool, cond, List, [], ◌∷◌, ◌++◌, length, get_or, take, set}
use Rattle.std.proofs.Common.{slice_get, Option, Some, None, refl, sym, ap, subst, ◌∙◌, inl, inr}
use Rattle.std.specs.Prelude.{◌==◌, if◌then◌else◌}
use Rattle.std.proofs.lemmas.List.{take_more}
use Rattle.std.proofs.lemmas.Option.{slice_get_read}
use Rattle.std.proofs.lemmas.Bool.{cases_Bool, eq-eqb, eqb-true, ne_eqb, true≢false}
use Rattle.mc_model.specs.message.Decree.{Decree}
use Rattle.mc_model.specs.message.Chain.{Chain}
use Rattle.synod_learner.specs.Counts.{known_in, AreOfOthers, IsChainAt, IsChainPlace, WithChain}

known_first : (first : Chain) (others : List Chain) (id : ℕ) → first.id ≡ id → known_in (first ∷ others) id ≡ Some first.decrees
known_first first others id same = ap (λ (b : Bool). cond b (Some first.decrees) (known_in others id)) (eq-eqb first.id id same)

known_later : (first : Chain) (others : List Chain) (id : ℕ) → (first.id ≡ id → ⊥) → known_in (first ∷ others) id ≡ known_in others id
known_later first others id other = ap (λ (b : Bool). cond b (Some first.decrees) (known_in others id)) (ne_eqb first.id id other)

by_first : (first : Chain) (id : ℕ) → (first.id ≡ id) ⊎ (first.id ≡ id → ⊥)
by_first first id = elim (cases_Bool (first.id == id)) [
  | inl same ↦ inl (eqb-true first.id id same)
  | inr differs ↦ inr (λ same. true≢false (sym (eq-eqb first.id id same) ∙ differs))
]

pub found_known : (chains : List Chain) (id place : ℕ) (chain : Chain) → AreOfOthers chains → slice_get chains place ≡ Some chain →
    chain.id ≡ id →
    known_in chains id ≡ Some chain.decrees
found_known [] id place chain apart stands is = absurd (cc)
found_known (first ∷ others) id zero chain apart stands is =
    let same : first ≡ chain = cc in
    known_first first others id (ap (λ (c : Chain). c.id) same ∙ is) ∙ ap (λ (c : Chain). Some c.decrees) same
found_known (first ∷ others) id (suc place) chain apart stands is =
    let behind = found_known others id place chain apart.1 stands is in
    known_later first others id (λ same. let none : known_in others id ≡ None = subst (λ (i : ℕ). known_in others i ≡ None) same apart.0 in cc) ∙ behind

-- ---- another chain in its place

abbrev known_with : List Chain → Chain → ℕ → Option (List Decree)
known_with chains new id = if id == new.id then Some new.decrees else known_in chains id

with_first : (first : Chain) (others : List Chain) (new : Chain) (id : ℕ) → first.id ≡ new.id → known_in (new ∷ others) id ≡ known_with (first ∷ others) new id
with_first first others new id same = elim (by_first new id) [
  | inl is ↦ known_first new others id is ∙ sym (ap (λ (b : Bool). cond b (Some new.decrees) (known_in (first ∷ others) id)) (eq-eqb id new.id (sym is)))
  | inr differs ↦
      known_later new others id differs
      ∙ sym (known_later first others id (λ is. differs (sym same ∙ is)))
      ∙ sym (ap (λ (b : Bool). cond b (Some new.decrees) (known_in (first ∷ others) id)) (ne_eqb id new.id (λ is. differs (sym is))))
]

with_later : (first : Chain) (others changed : List Chain) (new : Chain) (id : ℕ) → (first.id ≡ new.id → ⊥) →
    known_in changed id ≡ known_with others new id →
    known_in (first ∷ changed) id ≡ known_with (first ∷ others) new id
with_later first others changed new id apart behind = elim (by_first first id) [
  | inl is ↦
      known_first first changed id is
      ∙ sym (known_first first others id is)
      ∙ sym (ap (λ (b : Bool). cond b (Some new.decrees) (known_in (first ∷ others) id)) (ne_eqb id new.id (λ same. apart (is ∙ same))))
  | inr differs ↦
      known_later first changed id differs ∙ behind
      ∙ ap (λ (o : Option (List Decree)). if id == new.id then Some new.decrees else o) (sym (known_later first others id differs))
]

known-set : (chains : List Chain) (place : ℕ) (chain new : Chain) → AreOfOthers chains → slice_get chains place ≡ Some chain →
    chain.id ≡ new.id → (id : ℕ) →
    known_in (set chains place new) id ≡ known_with chains new id
known-set [] place chain new apart stands is id = absurd (cc)
known-set (first ∷ others) zero chain new apart stands is id =
    let same : first ≡ chain = cc in with_first first others new id (ap (λ (c : Chain). c.id) same ∙ is)
known-set (first ∷ others) (suc place) chain new apart stands is id =
    let known = found_known others new.id place chain apart.1 stands is in
    with_later first others (set others place new) new id
    (λ same. let none : known_in others new.id ≡ None = subst (λ (i : ℕ). known_in others i ≡ None) same apart.0 in cc)
    (known-set others place chain new apart.1 stands is id)

none_before : (first : Chain) (others : List Chain) (id : ℕ) → known_in (first ∷ others) id ≡ None → (first.id ≡ id → ⊥) × (known_in others id ≡ None)
none_before first others id none = elim (by_first first id) [
  | inl is ↦ let some = known_first first others id is in absurd (cc)
  | inr differs ↦ (differs, sym (known_later first others id differs) ∙ none)
]

only : (new : Chain) (id : ℕ) → known_in (new ∷ []) id ≡ known_with [] new id
only new id = elim (by_first new id) [
  | inl is ↦ known_first new [] id is ∙ sym (ap (λ (b : Bool). cond b (Some new.decrees) None) (eq-eqb id new.id (sym is)))
  | inr differs ↦ known_later new [] id differs ∙ sym (ap (λ (b : Bool). cond b (Some new.decrees) None) (ne_eqb id new.id (λ is. differs (sym is))))
]

known-push : (chains : List Chain) (new : Chain) → known_in chains new.id ≡ None → (id : ℕ) → known_in (chains ++ new ∷ []) id ≡ known_with chains new id
known-push [] new none id = only new id
known-push (first ∷ others) new none id =
    let parts = none_before first others new.id none in
    with_later first others (others ++ new ∷ []) new id parts.0 (known-push others new parts.1 id)

-- ---- no two are of one message then either

none_with : (chains : List Chain) (new : Chain) (id : ℕ) → (id ≡ new.id → ⊥) → known_in chains id ≡ None → known_with chains new id ≡ None
none_with chains new id differs none = ap (λ (b : Bool). cond b (Some new.decrees) (known_in chains id)) (ne_eqb id new.id differs) ∙ none

others-set : (chains : List Chain) (place : ℕ) (chain new : Chain) → AreOfOthers chains → slice_get chains place ≡ Some chain →
    chain.id ≡ new.id →
    AreOfOthers (set chains place new)
others-set [] place chain new apart stands is = absurd (cc)
others-set (first ∷ others) zero chain new apart stands is =
    let same : first ≡ chain = cc in
    (subst (λ (i : ℕ). known_in others i ≡ None) (ap (λ (c : Chain). c.id) same ∙ is) apart.0, apart.1)
others-set (first ∷ others) (suc place) chain new apart stands is =
    let known = found_known others new.id place chain apart.1 stands is in
    let differs : first.id ≡ new.id → ⊥ = λ same. let none : known_in others new.id ≡ None = subst (λ (i : ℕ). known_in others i ≡ None) same apart.0 in cc in (
      known-set others place chain new apart.1 stands is first.id ∙ none_with others new first.id differs apart.0,
      others-set others place chain new apart.1 stands is,
    )

others-push : (chains : List Chain) (new : Chain) → known_in chains new.id ≡ None → AreOfOthers chains → AreOfOthers (chains ++ new ∷ [])
others-push [] new none apart = (refl, tt)
others-push (first ∷ others) new none apart =
    let parts = none_before first others new.id none in
    (known-push others new parts.1 first.id ∙ none_with others new first.id parts.0 apart.0, others-push others new parts.1 apart.1)

pub chain_put : (chains : List Chain) (place : ℕ) (new : Chain) → IsChainAt chains new.id place → AreOfOthers chains →
    WithChain chains new (set chains place new)
chain_put chains place new found apart = record {
  others = others-set chains place found.chain new apart found.stands found.is_of;
  known = known-set chains place found.chain new apart found.stands found.is_of;
}

pub chain_pushed : (chains : List Chain) (new : Chain) → known_in chains new.id ≡ None → AreOfOthers chains → WithChain chains new (chains ++ new ∷ [])
chain_pushed chains new none apart = record { others = others-push chains new none apart; known = known-push chains new none }

-- ---- a search from the front

none_more : (chains : List Chain) (new : Chain) (id : ℕ) → known_in chains id ≡ None → (new.id ≡ id → ⊥) → known_in (chains ++ new ∷ []) id ≡ None
none_more [] new id none differs = known_later new [] id differs
none_more (first ∷ others) new id none differs =
    let parts = none_before first others id none in
    known_later first (others ++ new ∷ []) id parts.0 ∙ none_more others new id parts.1 differs

pub none_at_next : (chains : List Chain) (place : ℕ) (chain : Chain) (id : ℕ) → place < length chains → chain ≡ get_or chains place chain →
    known_in (take place chains) id ≡ None → (chain.id ≡ id → ⊥) →
    known_in (take (place + 1) chains) id ≡ None
none_at_next chains place chain id below is none differs =
    let more : take (place + 1) chains ≡ take place chains ++ chain ∷ [] = take_more chains place chain below ∙ ap
    (λ (c : Chain). take place chains ++ c ∷ []) (sym is) in
    ap (λ (cs : List Chain). known_in cs id) more ∙ none_more (take place chains) chain id none differs

pub chain_here : (chains : List Chain) (place : ℕ) (chain : Chain) (id : ℕ) → place < length chains → chain ≡ get_or chains place chain →
    chain.id ≡ id →
    IsChainAt chains id place
chain_here chains place chain id below is same =
    record { chain = chain; stands = slice_get_read chains (length chains) place chain refl below is; is_of = same }

-- what stands where a chain was found is what is known
pub known_here : (chains : List Chain) (place : ℕ) (chain : Chain) (id : ℕ) → AreOfOthers chains → IsChainAt chains id place →
    slice_get chains place ≡ Some chain →
    (known_in chains id ≡ Some chain.decrees) × (chain.id ≡ id)
known_here chains place chain id apart found stands =
    let both : Some found.chain ≡ Some chain = sym found.stands ∙ stands in
    let same : found.chain ≡ chain = cc in
    let is : chain.id ≡ id = ap (λ (c : Chain). c.id) (sym same) ∙ found.is_of in
    (found_known chains id place chain apart stands is, is)

pub place_none : (chains : List Chain) (id : ℕ) (place : Option ℕ) → IsChainPlace chains id place → place ≡ None → known_in chains id ≡ None
place_none chains id None is none = is
place_none chains id (Some place) is none = absurd (cc)
