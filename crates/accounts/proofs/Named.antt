-- The account of a system_id.
use Rattle.std.proofs.Common.{◌≡◌, ℕ, true, false, List, [], ◌∷◌, ◌++◌, Some, None, refl, sym, ap, subst, ◌∙◌, inl, inr}
use Rattle.std.specs.Str.{bytes_eq}
use Rattle.std.proofs.lemmas.Bool.{cases_Bool, cond-true, cond-false, false_from_ne_true, true≢false}
use Rattle.std.proofs.lemmas.Slice.Eq.{bytes_eq-Decides}
use Rattle.accounts.specs.declared.account.Account.{Account}
use Rattle.accounts.specs.Accounts.{AreApart, account_of}
use Rattle.accounts.specs.Laws.{IsAmong, IsNamed}

pub is_same : (a b : List ℕ) → a ≡ b → bytes_eq a b ≡ true
is_same a b same = (bytes_eq-Decides a b).1 same

pub are_same : (a b : List ℕ) → bytes_eq a b ≡ true → a ≡ b
are_same a b same = (bytes_eq-Decides a b).0 same

pub other_way : (a b : List ℕ) → bytes_eq a b ≡ false → bytes_eq b a ≡ false
other_way a b differs = false_from_ne_true _ (λ same. true≢false (sym (is_same a b (sym (are_same b a same))) ∙ differs))

-- ---- the first and the others

found_first : (first : Account) (others : List Account) (system_id : List ℕ) → bytes_eq first.system_id system_id ≡ true →
    account_of (first ∷ others) system_id ≡ Some first
found_first first others system_id same = cond-true (bytes_eq first.system_id system_id) (Some first) (account_of others system_id) same

found_later : (first : Account) (others : List Account) (system_id : List ℕ) → bytes_eq first.system_id system_id ≡ false →
    account_of (first ∷ others) system_id ≡ account_of others system_id
found_later first others system_id differs = cond-false (bytes_eq first.system_id system_id) (Some first) (account_of others system_id) differs

none_parts : (first : Account) (others : List Account) (system_id : List ℕ) → account_of (first ∷ others) system_id ≡ None →
    (bytes_eq first.system_id system_id ≡ false) × (account_of others system_id ≡ None)
none_parts first others system_id none = elim (cases_Bool (bytes_eq first.system_id system_id)) [
  | inl same ↦ let some = found_first first others system_id same in absurd (cc)
  | inr differs ↦ (differs, sym (found_later first others system_id differs) ∙ none)
]

-- ---- one more behind the others

none_more : (accounts : List Account) (last : Account) (system_id : List ℕ) → account_of accounts system_id ≡ None →
    bytes_eq last.system_id system_id ≡ false →
    account_of (accounts ++ last ∷ []) system_id ≡ None
none_more [] last system_id none differs = found_later last [] system_id differs
none_more (first ∷ others) last system_id none differs =
    let parts = none_parts first others system_id none in
    found_later first (others ++ last ∷ []) system_id parts.0 ∙ none_more others last system_id parts.1 differs

pub apart_more : (accounts : List Account) (last : Account) → AreApart accounts → account_of accounts last.system_id ≡ None → AreApart (accounts ++ last ∷ [])
apart_more [] last apart none = (refl, tt)
apart_more (first ∷ others) last apart none =
    let parts = none_parts first others last.system_id none in
    (none_more others last first.system_id apart.0 (other_way first.system_id last.system_id parts.0), apart_more others last apart.1 parts.1)

-- ---- the one that is found is the one of that name

later_named : (first : Account) (others : List Account) (system_id : List ℕ) (account : Account) → IsNamed others system_id account →
    IsNamed (first ∷ others) system_id account
later_named first others system_id account is = record { given = inr is.given; named = is.named }

pub found_is_named : (accounts : List Account) (system_id : List ℕ) (account : Account) → account_of accounts system_id ≡ Some account →
    IsNamed accounts system_id account
found_is_named [] system_id account found = absurd (cc)
found_is_named (first ∷ others) system_id account found = elim (cases_Bool (bytes_eq first.system_id system_id)) [
  | inl same ↦
      let here = found_first first others system_id same in
      let is : first ≡ account = cc in
      record { given = inl (sym is); named = ap (λ (a : Account). a.system_id) (sym is) ∙ are_same first.system_id system_id same }
  | inr differs ↦ later_named first others system_id account
      (found_is_named others system_id account (sym (found_later first others system_id differs) ∙ found))
]

pub named_is_found : (accounts : List Account) (system_id : List ℕ) (account : Account) → AreApart accounts → IsAmong account accounts →
    account.system_id ≡ system_id →
    account_of accounts system_id ≡ Some account
named_is_found [] system_id account apart is named = absurd is
named_is_found (first ∷ others) system_id account apart (inl is) named =
    found_first first others system_id (is_same first.system_id system_id (ap (λ (a : Account). a.system_id) (sym is) ∙ named)) ∙ ap
    (λ (a : Account). Some a) (sym is)
named_is_found (first ∷ others) system_id account apart (inr is) named =
    let found = named_is_found others system_id account apart.1 is named in
    found_later first others system_id (false_from_ne_true _ (λ same.
    let none : account_of others system_id ≡ None = subst (λ (name : List ℕ). account_of others name ≡ None)
    (are_same first.system_id system_id same) apart.0 in absurd (cc)))
    ∙ found
