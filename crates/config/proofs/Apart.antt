-- What digests say of rows.
use Rattle.std.proofs.Common.{◌≡◌, ℕ, Bool, true, false, not, ◌||◌, ◌==◌, List, [], ◌∷◌, map, Option, Some, None, IsSomeAnd, IfSome, IsTrue, codes}
use Rattle.std.proofs.Common.{option_and_then, refl, sym, ap, subst, ◌∙◌, ◌⊎◌, inl, inr}
use Rattle.std.proofs.lemmas.Bool.{and_parts, or_cases, or_parts, not-true, false≢true}
use Rattle.std.proofs.lemmas.Bool.Decides.{Decides-eqb}
use Rattle.std.proofs.lemmas.Slice.Eq.{bytes_eq-Decides}
use Rattle.std.specs.List.{AllByRecursion, list_any}
use Rattle.toml.specs.Data.{Data, string, integer, float, boolean, datetime, array, table, as_str, get}
use Rattle.toml.specs.declared.value.Value.{Value}
use Rattle.toml.specs.View.{view}
use Rattle.config.specs.Digests.{are_apart, digest_in, digest_of, LeadsTo}
use Rattle.config.specs.declared.key.Key.TheVariants as keys
use Rattle.config.specs.declared.key.Part.TheVariants.{Accounts, Routes}
use Rattle.config.specs.Faults.{Fits, IsFit, is_named}
use Rattle.config.specs.Rows.{as_number, has_twice, number_in, rows_of, same_number, same_text, same_value, text_in}
use Rattle.config.proofs.Lists.{all_from_map, all_weaker}

-- ---- the same value has one digest

same_texts : (one other : Option (List ℕ)) → same_text one other ≡ true → digest_of other ≡ digest_of one
same_texts None other is = absurd (false≢true is)
same_texts (Some text) None is = absurd (false≢true is)
same_texts (Some text) (Some other) is = ap (λ (t : List ℕ). digest_of (Some t)) (sym ((bytes_eq-Decides text other).0 is))

abbrev IsNumber : Option ℕ → Type 0
IsNumber found = (number : ℕ) × (found ≡ Some number)

a_number_is_no_text : (o : Option Data) → IsNumber (option_and_then as_number o) → option_and_then as_str o ≡ None
a_number_is_no_text None is = refl
a_number_is_no_text (Some (string s)) is = absurd (cc)
a_number_is_no_text (Some (integer z)) is = refl
a_number_is_no_text (Some (float _)) is = refl
a_number_is_no_text (Some (boolean _)) is = refl
a_number_is_no_text (Some (datetime _)) is = refl
a_number_is_no_text (Some (array _)) is = refl
a_number_is_no_text (Some (table _)) is = refl

both_numbers : (one other : Option ℕ) → same_number one other ≡ true → IsNumber one × IsNumber other
both_numbers None other is = absurd (false≢true is)
both_numbers (Some number) None is = absurd (false≢true is)
both_numbers (Some number) (Some other) is = ((number, refl), (other, refl))

same_digests : (name : List ℕ) (one other : Data) → same_value name one other ≡ true → digest_in name other ≡ digest_in name one
same_digests name one other is = either (or_cases (same_text (text_in name one) (text_in name other)) (same_number (number_in name one) (number_in name other)) is)
  where
    either : (same_text (text_in name one) (text_in name other) ≡ true) ⊎ (same_number (number_in name one) (number_in name other) ≡ true)
        → digest_in name other ≡ digest_in name one
    either (inl texts) = same_texts (text_in name one) (text_in name other) texts
    either (inr numbers) =
        let both = both_numbers (number_in name one) (number_in name other) numbers in
        ap digest_of (a_number_is_no_text (get name other) both.1 ∙ sym (a_number_is_no_text (get name one) both.0))

-- ---- rows whose digests are apart have no value twice

not_here : (same : Bool) (one other : ℕ) → (same ≡ true → other ≡ one) → (other == one) ≡ false → same ≡ false
not_here true one other same apart = absurd (false≢true (sym apart ∙ (Decides-eqb other one).1 (same refl)))
not_here false one other same apart = refl

none_same : (name : List ℕ) (first : Data) (rows : List Value)
    → list_any (λ other. other == digest_in name first) (map (λ row. digest_in name (view row)) rows) ≡ false → list_any (same_value name first) (map view rows) ≡ false
none_same name first [] none = refl
none_same name first (row ∷ rows) none =
    let parts =
    or_parts (digest_in name (view row) == digest_in name first) (list_any (λ other. other == digest_in name first) (map (λ row. digest_in name (view row)) rows)) none in
    let here : same_value name first (view row) ≡ false =
    not_here (same_value name first (view row)) (digest_in name first) (digest_in name (view row)) (same_digests name first (view row)) parts.0 in
    ap (λ (b : Bool). b || list_any (same_value name first) (map view rows)) here ∙ none_same name first rows parts.1

pub apart_once : (name : List ℕ) (rows : List Value) → are_apart (map (λ row. digest_in name (view row)) rows) ≡ true → has_twice name (map view rows) ≡ false
apart_once name [] apart = refl
apart_once name (row ∷ rows) apart =
    let parts = and_parts (not (list_any (λ other. other == digest_in name (view row)) (map (λ row. digest_in name (view row)) rows)))
    (are_apart (map (λ row. digest_in name (view row)) rows)) apart in
    let none : list_any (same_value name (view row)) (map view rows) ≡ false = none_same name (view row) rows (not-true _ parts.0) in
    ap (λ (b : Bool). b || has_twice name (map view rows)) none ∙ apart_once name rows parts.1

-- ---- routes that lead to accounts

leads : (document : Data) (account : Option Data) → IsSomeAnd (option_and_then as_str account) (λ name. IsTrue (list_any (is_named name) (rows_of document Accounts)))
    → IfSome account (λ value. IsSomeAnd (as_str value) (λ name. IsTrue (list_any (is_named name) (rows_of document Accounts))))
leads document None is = tt
leads document (Some value) is = is

pub routes_fit : (document : Data) (accounts routes : List Value) → map view accounts ≡ rows_of document Accounts → map view routes ≡ rows_of document Routes
    → AllByRecursion (λ route. LeadsTo (map view accounts) (view route)) routes → IsFit document keys.RouteAccount
routes_fit document accounts routes are too all =
    let named : AllByRecursion (LeadsTo (rows_of document Accounts)) (map view routes) =
    subst (λ (rows : List Data). AllByRecursion (LeadsTo rows) (map view routes)) are (all_from_map (LeadsTo (map view accounts)) view routes all) in
    all_weaker (LeadsTo (rows_of document Accounts)) (Fits document keys.RouteAccount) (λ route is. leads document (get (codes "account") route) is)
    (rows_of document Routes) (subst (AllByRecursion (LeadsTo (rows_of document Accounts))) too named)
