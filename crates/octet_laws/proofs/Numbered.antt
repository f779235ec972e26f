-- Entries by numbers, of which one is put in or taken out: the others stay.
use Rattle.std.proofs.Common.{◌≡◌, ℕ, Bool, true, false, cond, List, [], ◌∷◌, Option, Some, None, refl, sym, ◌∙◌, ap, inl, inr, arith}
use Rattle.std.specs.Ordering.{nat_cmp, is_eq, match_ordering}
use Rattle.std.specs.declared.cmp.Ordering.{Ordering}
use Rattle.std.specs.declared.cmp.Ordering.TheVariants.{Less, Equal, Greater}
use Rattle.std.specs.Map.{lookup, remove_entry}
use Rattle.std.specs.BTreeMap.{insert_entry, is_at}
use Rattle.std.proofs.lemmas.Bool.Decides.{nat_tests}
use Rattle.mc_model.specs.synod.Lists.{In}
use Rattle.world_fates.proofs.Entries.{AreApart, Has, found_entry, none_left}

not_here : (j k : ℕ) → (j ≡ k → ⊥) → is_eq (nat_cmp j k) ≡ false
not_here j k apart = by_test (is_eq (nat_cmp j k)) refl
  where
    by_test : (test : Bool) → is_eq (nat_cmp j k) ≡ test → test ≡ false
    by_test true is = absurd (apart (grind (arith, nat_tests, is)))
    by_test false is = refl

module _ {X : Type 0} where
  pub remove_elsewhere : (number other : ℕ) → (number ≡ other → ⊥) → (es : List (ℕ × X)) →
      lookup (is_at (nat_cmp other)) (remove_entry (is_at (nat_cmp number)) es) ≡ lookup (is_at (nat_cmp other)) es
  remove_elsewhere number other apart [] = refl
  remove_elsewhere number other apart (e ∷ es) = by_test (is_eq (nat_cmp number e.0)) refl (remove_elsewhere number other apart es)
    where
      by_test : (test : Bool) → is_eq (nat_cmp number e.0) ≡ test →
          lookup (is_at (nat_cmp other)) (remove_entry (is_at (nat_cmp number)) es) ≡ lookup (is_at (nat_cmp other)) es →
          lookup (is_at (nat_cmp other)) (cond test es (e ∷ remove_entry (is_at (nat_cmp number)) es)) ≡ lookup (is_at (nat_cmp other)) (e ∷ es)
      by_test true is behind = let here : number ≡ e.0 = grind (arith, nat_tests, is) in rw (not_here other e.0 (λ same. apart (here ∙ sym same))) refl
      by_test false is behind = ap (λ (found : Option X). cond (is_eq (nat_cmp other e.0)) (Some e.1) found) behind

  pub none_there : (number : ℕ) (es : List (ℕ × X)) → (Has es number → ⊥) → lookup (is_at (nat_cmp number)) es ≡ None
  none_there number es none = by_found (lookup (is_at (nat_cmp number)) es) refl
    where
      by_found : (found : Option X) → lookup (is_at (nat_cmp number)) es ≡ found → found ≡ None
      by_found None is = refl
      by_found (Some value) is = absurd (none (record { value = value; among = found_entry es number value is }))

  pub removed_there : (number : ℕ) (es : List (ℕ × X)) → AreApart es → lookup (is_at (nat_cmp number)) (remove_entry (is_at (nat_cmp number)) es) ≡ None
  removed_there number es apart = none_there number (remove_entry (is_at (nat_cmp number)) es) (none_left number es apart)

  pub some_there : (number : ℕ) (es : List (ℕ × X)) → Has es number → lookup (is_at (nat_cmp number)) es ≡ None → ⊥
  some_there number [] has none = has.among
  some_there number (e ∷ es) has none = by_test (is_eq (nat_cmp number e.0)) refl (some_there number es) has.among none
    where
      by_test : (test : Bool) → is_eq (nat_cmp number e.0) ≡ test → (Has es number → lookup (is_at (nat_cmp number)) es ≡ None → ⊥) →
          In (number, has.value) (e ∷ es) → cond test (Some e.1) (lookup (is_at (nat_cmp number)) es) ≡ None → ⊥
      by_test true is behind among none = cc
      by_test false is behind (inr later) none = behind (record { value = has.value; among = later }) none
      by_test false is behind (inl same) none =
          let here : number ≡ e.0 = ap (λ (x : ℕ × X). x.0) same in let both : is_eq (nat_cmp number e.0) ≡ true = grind (arith, nat_tests, here) in cc

  pub remove_has : (number other : ℕ) → (number ≡ other → ⊥) → (es : List (ℕ × X)) → Has es other → Has (remove_entry (is_at (nat_cmp number)) es) other
  remove_has number other apart [] has = absurd has.among
  remove_has number other apart (e ∷ es) has = by_test (is_eq (nat_cmp number e.0)) refl (remove_has number other apart es) has.among
    where
      by_test : (test : Bool) → is_eq (nat_cmp number e.0) ≡ test → (Has es other → Has (remove_entry (is_at (nat_cmp number)) es) other) →
          In (other, has.value) (e ∷ es) → Has (cond test es (e ∷ remove_entry (is_at (nat_cmp number)) es)) other
      by_test true is behind (inl same) =
          let here : number ≡ e.0 = grind (arith, nat_tests, is) in absurd (apart (here ∙ sym (ap (λ (x : ℕ × X). x.0) same)))
      by_test true is behind (inr later) = record { value = has.value; among = later }
      by_test false is behind (inl same) = record { value = has.value; among = inl same }
      by_test false is behind (inr later) = let it = behind (record { value = has.value; among = later }) in record { value = it.value; among = inr it.among }

  pub insert_here : (number : ℕ) (value : X) (es : List (ℕ × X)) → Has (insert_entry nat_cmp es number value) number
  insert_here number value [] = record { value = value; among = inl refl }
  insert_here number value (e ∷ es) = by_order (nat_cmp number e.0) refl (insert_here number value es)
    where
      by_order : (o : Ordering) → nat_cmp number e.0 ≡ o → Has (insert_entry nat_cmp es number value) number →
          Has (match_ordering o ((number, value) ∷ e ∷ es) ((e.0, value) ∷ es) (e ∷ insert_entry nat_cmp es number value)) number
      by_order Less is behind = record { value = value; among = inl refl }
      by_order Equal is behind =
          let same : number ≡ e.0 = grind (arith, nat_tests, is) in record { value = value; among = inl (ap (λ (n : ℕ). (n, value)) same) }
      by_order Greater is behind = record { value = behind.value; among = inr behind.among }

  pub insert_has : (number other : ℕ) (value : X) (es : List (ℕ × X)) → Has es other → Has (insert_entry nat_cmp es number value) other
  insert_has number other value [] has = absurd has.among
  insert_has number other value (e ∷ es) has = by_order (nat_cmp number e.0) (insert_has number other value es) has.among
    where
      by_order : (o : Ordering) → (Has es other → Has (insert_entry nat_cmp es number value) other) → In (other, has.value) (e ∷ es) →
          Has (match_ordering o ((number, value) ∷ e ∷ es) ((e.0, value) ∷ es) (e ∷ insert_entry nat_cmp es number value)) other
      by_order Less behind among = record { value = has.value; among = inr among }
      by_order Equal behind (inl same) = record { value = value; among = inl (ap (λ (x : ℕ × X). (x.0, value)) same) }
      by_order Equal behind (inr later) = record { value = has.value; among = inr later }
      by_order Greater behind (inl same) = record { value = has.value; among = inl same }
      by_order Greater behind (inr later) = let it = behind (record { value = has.value; among = later }) in record { value = it.value; among = inr it.among }
