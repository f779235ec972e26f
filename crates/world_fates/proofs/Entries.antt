-- Entries by numbers, of which no two have one number: looked up, put in, changed and taken out.
use Rattle.std.proofs.Common.{◌≡◌, ◌⊎◌, ℕ, Bool, true, false, cond, List, [], ◌∷◌, map, Some, refl, sym, ◌∙◌, ap, subst, inl, inr}
use Rattle.std.specs.Ordering.{nat_cmp, is_eq, match_ordering}
use Rattle.std.specs.declared.cmp.Ordering.{Ordering}
use Rattle.std.specs.declared.cmp.Ordering.TheVariants.{Less, Equal, Greater}
use Rattle.std.specs.Map.{lookup, remove_entry, set_value}
use Rattle.std.specs.BTreeMap.{insert_entry, is_at}
use Rattle.mc_model.specs.synod.Lists.{In}
use Rattle.script_text.proofs.Keys.{equal, is_here, not_so}

module _ {X : Type 0} where
  -- an entry has this number
  pub record Has (es : List (ℕ × X)) (number : ℕ) : Type 0 where
    pub value : X
    pub among : In (number, value) es

  -- no two have one number
  abbrev pub AreApart : List (ℕ × X) → Type 0
  AreApart [] = Unit {0}
  AreApart (e ∷ es) = (Has es e.0 → ⊥) × AreApart es

  has_later : (e : ℕ × X) (es : List (ℕ × X)) (number : ℕ) → Has es number → Has (e ∷ es) number
  has_later e es number has = record { value = has.value; among = inr has.among }

  has_first : (e : ℕ × X) (es : List (ℕ × X)) (number : ℕ) → number ≡ e.0 → Has (e ∷ es) number
  has_first e es number same = record { value = e.1; among = inl (λ i. (same i, e.1)) }

  -- ---- looked up

  pub found_entry : (es : List (ℕ × X)) (number : ℕ) (value : X) → lookup (is_at (nat_cmp number)) es ≡ Some value → In (number, value) es
  found_entry [] number value is = absurd cc
  found_entry (e ∷ es) number value is = by_test (is_eq (nat_cmp number e.0)) refl (found_entry es number value) is
    where
      the_value : Some e.1 ≡ Some value → value ≡ e.1
      the_value is = cc

      by_test : (test : Bool) → is_eq (nat_cmp number e.0) ≡ test → (lookup (is_at (nat_cmp number)) es ≡ Some value → In (number, value) es) →
          cond test (Some e.1) (lookup (is_at (nat_cmp number)) es) ≡ Some value → In (number, value) (e ∷ es)
      by_test true here behind is = inl (λ i. (is_here number e.0 here i, the_value is i))
      by_test false here behind is = inr (behind is)

  -- ---- taken out

  pub removed_in : (test : ℕ → Bool) (es : List (ℕ × X)) (entry : ℕ × X) → In entry (remove_entry test es) → In entry es
  removed_in test [] entry among = among
  removed_in test (e ∷ es) entry among = by_test (test e.0) (removed_in test es entry) among
    where
      by_test : (b : Bool) → (In entry (remove_entry test es) → In entry es) → In entry (cond b es (e ∷ remove_entry test es)) → In entry (e ∷ es)
      by_test true behind among = inr among
      by_test false behind (inl same) = inl same
      by_test false behind (inr later) = inr (behind later)

  removed_has : (test : ℕ → Bool) (es : List (ℕ × X)) (number : ℕ) → Has (remove_entry test es) number → Has es number
  removed_has test es number has = record { value = has.value; among = removed_in test es (number, has.value) has.among }

  pub none_left : (number : ℕ) (es : List (ℕ × X)) → AreApart es → Has (remove_entry (is_at (nat_cmp number)) es) number → ⊥
  none_left number [] are has = has.among
  none_left number (e ∷ es) are has = by_test (is_eq (nat_cmp number e.0)) refl (none_left number es are.1) has
    where
      removed : List (ℕ × X)
      removed = remove_entry (is_at (nat_cmp number)) es

      by_test : (test : Bool) → is_eq (nat_cmp number e.0) ≡ test → (Has removed number → ⊥) → Has (cond test es (e ∷ removed)) number → ⊥
      by_test true here behind has = are.0 (subst (Has es) (is_here number e.0 here) has)
      by_test false here behind has = elim has.among [
        | inl same ↦ not_so number e.0 here (ap (λ (x : ℕ × X). x.0) same)
        | inr later ↦ behind (record { value = has.value; among = later })
      ]

  pub remove_apart : (test : ℕ → Bool) (es : List (ℕ × X)) → AreApart es → AreApart (remove_entry test es)
  remove_apart test [] are = tt
  remove_apart test (e ∷ es) are = by_test (test e.0) (remove_apart test es are.1)
    where
      by_test : (b : Bool) → AreApart (remove_entry test es) → AreApart (cond b es (e ∷ remove_entry test es))
      by_test true behind = are.1
      by_test false behind = ((λ has. are.0 (removed_has test es e.0 has)), behind)

  -- ---- put in

  pub inserted_in : (es : List (ℕ × X)) (number : ℕ) (value : X) (entry : ℕ × X) → In entry (insert_entry nat_cmp es number value) →
      (entry ≡ (number, value)) ⊎ In entry es
  inserted_in [] number value entry (inl same) = inl same
  inserted_in [] number value entry (inr none) = absurd none
  inserted_in (e ∷ es) number value entry among = by_order (nat_cmp number e.0) refl (inserted_in es number value entry) among
    where
      by_order : (o : Ordering) → nat_cmp number e.0 ≡ o →
          (In entry (insert_entry nat_cmp es number value) → (entry ≡ (number, value)) ⊎ In entry es) →
          In entry (match_ordering o ((number, value) ∷ e ∷ es) ((e.0, value) ∷ es) (e ∷ insert_entry nat_cmp es number value)) →
          (entry ≡ (number, value)) ⊎ In entry (e ∷ es)
      by_order Less is behind (inl same) = inl same
      by_order Less is behind (inr later) = inr later
      by_order Equal is behind (inl same) = inl (same ∙ ap (λ (n : ℕ). (n, value)) (sym (equal number e.0 is)))
      by_order Equal is behind (inr later) = inr (inr later)
      by_order Greater is behind (inl same) = inr (inl same)
      by_order Greater is behind (inr later) = elim (behind later) [ inl new ↦ inl new | inr old ↦ inr (inr old) ]

  pub insert_apart : (es : List (ℕ × X)) (number : ℕ) (value : X) → (Has es number → ⊥) → AreApart es → AreApart (insert_entry nat_cmp es number value)
  insert_apart [] number value none are = ((λ has. has.among), tt)
  insert_apart (e ∷ es) number value none are =
      by_order (nat_cmp number e.0) refl (insert_apart es number value (λ has. none (has_later e es number has)) are.1)
    where
      by_order : (o : Ordering) → nat_cmp number e.0 ≡ o → AreApart (insert_entry nat_cmp es number value) →
          AreApart (match_ordering o ((number, value) ∷ e ∷ es) ((e.0, value) ∷ es) (e ∷ insert_entry nat_cmp es number value))
      by_order Less is behind = (none, are)
      by_order Equal is behind = absurd (none (has_first e es number (equal number e.0 is)))
      by_order Greater is behind = (
        (λ has. elim (inserted_in es number value (e.0, has.value) has.among) [
          | inl new ↦ none (has_first e es number (sym (ap (λ (x : ℕ × X). x.0) new)))
          | inr old ↦ are.0 (record { value = has.value; among = old })
        ]),
        behind,
      )

  -- ---- changed

  pub set_in : (number : ℕ) (es : List (ℕ × X)) (value : X) (entry : ℕ × X) → In entry (set_value (is_at (nat_cmp number)) es value) →
      (entry ≡ (number, value)) ⊎ In entry es
  set_in number [] value entry among = absurd among
  set_in number (e ∷ es) value entry among = by_test (is_eq (nat_cmp number e.0)) refl (set_in number es value entry) among
    where
      by_test : (test : Bool) → is_eq (nat_cmp number e.0) ≡ test →
          (In entry (set_value (is_at (nat_cmp number)) es value) → (entry ≡ (number, value)) ⊎ In entry es) →
          In entry (cond test ((e.0, value) ∷ es) (e ∷ set_value (is_at (nat_cmp number)) es value)) → (entry ≡ (number, value)) ⊎ In entry (e ∷ es)
      by_test true here behind (inl same) = inl (same ∙ ap (λ (n : ℕ). (n, value)) (sym (is_here number e.0 here)))
      by_test true here behind (inr later) = inr (inr later)
      by_test false here behind (inl same) = inr (inl same)
      by_test false here behind (inr later) = elim (behind later) [ inl new ↦ inl new | inr old ↦ inr (inr old) ]

  pub set_has : (test : ℕ → Bool) (es : List (ℕ × X)) (value : X) (number : ℕ) → Has (set_value test es value) number → Has es number
  set_has test [] value number has = absurd has.among
  set_has test (e ∷ es) value number has = by_test (test e.0) (set_has test es value number) has
    where
      by_test : (b : Bool) → (Has (set_value test es value) number → Has es number) → Has (cond b ((e.0, value) ∷ es) (e ∷ set_value test es value)) number →
          Has (e ∷ es) number
      by_test true behind has = elim has.among [
        | inl same ↦ has_first e es number (ap (λ (x : ℕ × X). x.0) same)
        | inr later ↦ record { value = has.value; among = inr later }
      ]
      by_test false behind has = elim has.among [
        | inl same ↦ has_first e es number (ap (λ (x : ℕ × X). x.0) same)
        | inr later ↦ has_later e es number (behind (record { value = has.value; among = later }))
      ]

  pub set_apart : (test : ℕ → Bool) (es : List (ℕ × X)) (value : X) → AreApart es → AreApart (set_value test es value)
  set_apart test [] value are = tt
  set_apart test (e ∷ es) value are = by_test (test e.0) (set_apart test es value are.1)
    where
      by_test : (b : Bool) → AreApart (set_value test es value) → AreApart (cond b ((e.0, value) ∷ es) (e ∷ set_value test es value))
      by_test true behind = (are.0, are.1)
      by_test false behind = ((λ has. are.0 (set_has test es value e.0 has)), behind)

  -- ---- each changed

  map_has : (f : X → X) (es : List (ℕ × X)) (number : ℕ) → Has (map (λ (e : ℕ × X). (e.0, f e.1)) es) number → Has es number
  map_has f [] number has = absurd has.among
  map_has f (e ∷ es) number has = elim has.among [
    | inl same ↦ has_first e es number (ap (λ (x : ℕ × X). x.0) same)
    | inr later ↦ has_later e es number (map_has f es number (record { value = has.value; among = later }))
  ]

  pub map_apart : (f : X → X) (es : List (ℕ × X)) → AreApart es → AreApart (map (λ (e : ℕ × X). (e.0, f e.1)) es)
  map_apart f [] are = tt
  map_apart f (e ∷ es) are = ((λ has. are.0 (map_has f es e.0 has)), map_apart f es are.1)
