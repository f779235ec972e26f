-- Entries of a map by numbers, of which no two have one key: taken out, put in, and changed.
use Rattle.std.proofs.Common.{◌≡◌, ℕ, Bool, true, false, cond, List, [], ◌∷◌, Option, Some, refl, sym, ◌∙◌, ap, subst, arith}
use Rattle.std.specs.List.{AllByRecursion}
use Rattle.std.specs.Ordering.{nat_cmp, is_eq, match_ordering}
use Rattle.std.specs.declared.cmp.Ordering.{Ordering}
use Rattle.std.specs.declared.cmp.Ordering.TheVariants.{Less, Equal, Greater}
use Rattle.std.specs.Map.{lookup, remove_entry, set_value}
use Rattle.std.specs.BTreeMap.{insert_entry, is_at}
use Rattle.std.proofs.lemmas.Bool.Decides.{nat_tests}
use Rattle.script_text.proofs.Keys.{equal, is_here, not_so}

pub apart : (j k : ℕ) → (j ≡ k → ⊥) → is_eq (nat_cmp k j) ≡ false
apart j k differ = grind (arith, nat_tests)

module _ {X : Type 0} where
  abbrev pub IsNot : ℕ → ℕ × X → Type 0
  IsNot number entry = number ≡ entry.0 → ⊥

  -- no two have one key
  abbrev pub AreApart : List (ℕ × X) → Type 0
  AreApart [] = Unit {0}
  AreApart (e ∷ es) = AllByRecursion (IsNot e.0) es × AreApart es

  pub all_to : (P Q : ℕ × X → Type 0) (number : ℕ) (es : List (ℕ × X)) → ((e : ℕ × X) → IsNot number e → P e → Q e) → AllByRecursion (IsNot number) es →
      AllByRecursion P es → AllByRecursion Q es
  all_to P Q number [] to none all = tt
  all_to P Q number (e ∷ es) to none all = (to e none.0 all.0, all_to P Q number es to none.1 all.1)

  pub remove_elsewhere : (es : List (ℕ × X)) (number other : ℕ) → (number ≡ other → ⊥) →
      lookup (is_at (nat_cmp other)) (remove_entry (is_at (nat_cmp number)) es) ≡ lookup (is_at (nat_cmp other)) es
  remove_elsewhere [] number other differ = refl
  remove_elsewhere (e ∷ es) number other differ = at_test (is_eq (nat_cmp number e.0)) refl (remove_elsewhere es number other differ)
    where
      at_test : (test : Bool) → is_eq (nat_cmp number e.0) ≡ test →
          lookup (is_at (nat_cmp other)) (remove_entry (is_at (nat_cmp number)) es) ≡ lookup (is_at (nat_cmp other)) es →
          lookup (is_at (nat_cmp other)) (cond test es (e ∷ remove_entry (is_at (nat_cmp number)) es)) ≡ cond (is_eq (nat_cmp other e.0)) (Some e.1)
          (lookup (is_at (nat_cmp other)) es)
      at_test true is behind = rw (apart e.0 other (λ here. differ (is_here number e.0 is ∙ here))) refl
      at_test false is behind = ap (λ (found : Option X). cond (is_eq (nat_cmp other e.0)) (Some e.1) found) behind

  pub remove_all : (P : ℕ × X → Type 0) (test : ℕ → Bool) (es : List (ℕ × X)) → AllByRecursion P es → AllByRecursion P (remove_entry test es)
  remove_all P test [] all = tt
  remove_all P test (e ∷ es) all = at_test (test e.0) (remove_all P test es all.1)
    where
      at_test : (b : Bool) → AllByRecursion P (remove_entry test es) → AllByRecursion P (cond b es (e ∷ remove_entry test es))
      at_test true behind = all.1
      at_test false behind = (all.0, behind)

  none_same : (one other : ℕ) (es : List (ℕ × X)) → one ≡ other → AllByRecursion (IsNot other) es → AllByRecursion (IsNot one) es
  none_same one other es is all = subst (λ (n : ℕ). AllByRecursion (IsNot n) es) (sym is) all

  pub remove_apart : (number : ℕ) (es : List (ℕ × X)) → AreApart es →
      AreApart (remove_entry (is_at (nat_cmp number)) es) × AllByRecursion (IsNot number) (remove_entry (is_at (nat_cmp number)) es)
  remove_apart number [] are = (tt, tt)
  remove_apart number (e ∷ es) are = at_test (is_eq (nat_cmp number e.0)) refl (remove_apart number es are.1)
    where
      removed : List (ℕ × X)
      removed = remove_entry (is_at (nat_cmp number)) es

      at_test : (test : Bool) → is_eq (nat_cmp number e.0) ≡ test → AreApart removed × AllByRecursion (IsNot number) removed →
          AreApart (cond test es (e ∷ removed)) × AllByRecursion (IsNot number) (cond test es (e ∷ removed))
      at_test true is behind = (are.1, none_same number e.0 es (is_here number e.0 is) are.0)
      at_test false is behind = ((remove_all (IsNot e.0) (is_at (nat_cmp number)) es are.0, behind.0), (not_so number e.0 is, behind.1))

  pub insert_all : (P : ℕ × X → Type 0) (es : List (ℕ × X)) (number : ℕ) (value : X) → AllByRecursion (IsNot number) es → P (number, value) →
      AllByRecursion P es → AllByRecursion P (insert_entry nat_cmp es number value)
  insert_all P [] number value none new all = (new, tt)
  insert_all P (e ∷ es) number value none new all = at_order (nat_cmp number e.0) refl (insert_all P es number value none.1 new all.1)
    where
      at_order : (o : Ordering) → nat_cmp number e.0 ≡ o → AllByRecursion P (insert_entry nat_cmp es number value) →
          AllByRecursion P (match_ordering o ((number, value) ∷ e ∷ es) ((e.0, value) ∷ es) (e ∷ insert_entry nat_cmp es number value))
      at_order Less is behind = (new, all)
      at_order Equal is behind = absurd (none.0 (equal number e.0 is))
      at_order Greater is behind = (all.0, behind)

  pub insert_apart : (es : List (ℕ × X)) (number : ℕ) (value : X) → AllByRecursion (IsNot number) es → AreApart es →
      AreApart (insert_entry nat_cmp es number value)
  insert_apart [] number value none are = (tt, tt)
  insert_apart (e ∷ es) number value none are = at_order (nat_cmp number e.0) refl (insert_apart es number value none.1 are.1)
    where
      at_order : (o : Ordering) → nat_cmp number e.0 ≡ o → AreApart (insert_entry nat_cmp es number value) →
          AreApart (match_ordering o ((number, value) ∷ e ∷ es) ((e.0, value) ∷ es) (e ∷ insert_entry nat_cmp es number value))
      at_order Less is behind = (none, are)
      at_order Equal is behind = absurd (none.0 (equal number e.0 is))
      at_order Greater is behind = (insert_all (IsNot e.0) es number value none.1 (λ here. none.0 (sym here)) are.0, behind)

  pub set_keys : (P : ℕ → Type 0) (test : ℕ → Bool) (es : List (ℕ × X)) (value : X) → AllByRecursion (λ e. P e.0) es →
      AllByRecursion (λ e. P e.0) (set_value test es value)
  set_keys P test [] value all = tt
  set_keys P test (e ∷ es) value all = at_test (test e.0) (set_keys P test es value all.1)
    where
      at_test : (b : Bool) → AllByRecursion (λ (x : ℕ × X). P x.0) (set_value test es value) →
          AllByRecursion (λ (x : ℕ × X). P x.0) (cond b ((e.0, value) ∷ es) (e ∷ set_value test es value))
      at_test true behind = all
      at_test false behind = (all.0, behind)

  pub set_apart : (test : ℕ → Bool) (es : List (ℕ × X)) (value : X) → AreApart es → AreApart (set_value test es value)
  set_apart test [] value are = tt
  set_apart test (e ∷ es) value are = at_test (test e.0) (set_apart test es value are.1)
    where
      at_test : (b : Bool) → AreApart (set_value test es value) → AreApart (cond b ((e.0, value) ∷ es) (e ∷ set_value test es value))
      at_test true behind = are
      at_test false behind = (set_keys (λ k. e.0 ≡ k → ⊥) test es value are.0, behind)

  pub set_all : (P Q : ℕ × X → Type 0) (number : ℕ) (es : List (ℕ × X)) (value : X) → ((e : ℕ × X) → IsNot number e → P e → Q e) →
      ((k : ℕ) → number ≡ k → Q (k, value)) → AreApart es → AllByRecursion P es → AllByRecursion Q (set_value (is_at (nat_cmp number)) es value)
  set_all P Q number [] value to new are all = tt
  set_all P Q number (e ∷ es) value to new are all = at_test (is_eq (nat_cmp number e.0)) refl (set_all P Q number es value to new are.1 all.1)
    where
      at_test : (test : Bool) → is_eq (nat_cmp number e.0) ≡ test → AllByRecursion Q (set_value (is_at (nat_cmp number)) es value) →
          AllByRecursion Q (cond test ((e.0, value) ∷ es) (e ∷ set_value (is_at (nat_cmp number)) es value))
      at_test true is behind = (new e.0 (is_here number e.0 is), all_to P Q number es to (none_same number e.0 es (is_here number e.0 is) are.0) all.1)
      at_test false is behind = (to e (not_so number e.0 is) all.0, behind)

  pub set_here : (es : List (ℕ × X)) (number : ℕ) (old value : X) → lookup (is_at (nat_cmp number)) es ≡ Some old →
      lookup (is_at (nat_cmp number)) (set_value (is_at (nat_cmp number)) es value) ≡ Some value
  set_here [] number old value found = absurd cc
  set_here (e ∷ es) number old value found = at_test (is_eq (nat_cmp number e.0)) refl (set_here es number old value) found
    where
      at_test : (test : Bool) → is_eq (nat_cmp number e.0) ≡ test →
          (lookup (is_at (nat_cmp number)) es ≡ Some old → lookup (is_at (nat_cmp number)) (set_value (is_at (nat_cmp number)) es value) ≡ Some value) →
          cond test (Some e.1) (lookup (is_at (nat_cmp number)) es) ≡ Some old →
          lookup (is_at (nat_cmp number)) (cond test ((e.0, value) ∷ es) (e ∷ set_value (is_at (nat_cmp number)) es value)) ≡ Some value
      at_test true is behind found = rw is refl
      at_test false is behind found = rw is (behind found)

  pub set_elsewhere : (es : List (ℕ × X)) (number other : ℕ) (value : X) → (number ≡ other → ⊥) →
      lookup (is_at (nat_cmp other)) (set_value (is_at (nat_cmp number)) es value) ≡ lookup (is_at (nat_cmp other)) es
  set_elsewhere [] number other value differ = refl
  set_elsewhere (e ∷ es) number other value differ = at_test (is_eq (nat_cmp number e.0)) refl (set_elsewhere es number other value differ)
    where
      at_test : (test : Bool) → is_eq (nat_cmp number e.0) ≡ test →
          lookup (is_at (nat_cmp other)) (set_value (is_at (nat_cmp number)) es value) ≡ lookup (is_at (nat_cmp other)) es →
          lookup (is_at (nat_cmp other)) (cond test ((e.0, value) ∷ es) (e ∷ set_value (is_at (nat_cmp number)) es value)) ≡ cond (is_eq (nat_cmp other e.0))
          (Some e.1) (lookup (is_at (nat_cmp other)) es)
      at_test true is behind =
          let not_here = apart e.0 other (λ here. differ (is_here number e.0 is ∙ here)) in
          rw not_here refl
      at_test false is behind = ap (λ (found : Option X). cond (is_eq (nat_cmp other e.0)) (Some e.1) found) behind
