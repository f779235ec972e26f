-- Which text names which id.
use Rattle.std.proofs.Common.{◌≡◌, ◌↔◌, ℕ, List, Bool, true, false, cond, Option, None, Some, refl, sym, ap, subst, ◌∙◌, arith}
use Rattle.std.specs.Fmt.{decimal}
use Rattle.std.specs.Str.Parse.{digits_value}
use Rattle.std.proofs.lemmas.Bool.{and_parts, and_from, leb-true, le-leb}
use Rattle.std.proofs.lemmas.Fmt.{digits_value-decimal}
use Rattle.mc_model.specs.message.Ids.{IsId}
use Rattle.mc_types.specs.Texts.{is_ten_digits, is_id, id_in}
use Rattle.mc_types.proofs.Digits.{numerals, spelled, ten_digits-decimal}

-- the test for an id tells
pub is_id-tells : (number : ℕ) → is_id number ≡ true → IsId number
is_id-tells number is =
    let serial = and_parts _ _ is in
    let incarnation = and_parts _ _ serial.0 in
    let node = and_parts _ _ incarnation.0 in
    record {
      node = record { least = leb-true 1 _ node.0; most = leb-true _ 9 node.1 };
      incarnation = record { least = leb-true 1 _ incarnation.1; most = omega arith };
      serial = record { least = leb-true 1 _ serial.1; most = omega arith };
    }

pub is_id-told : (number : ℕ) → IsId number → is_id number ≡ true
is_id-told number is =
    let node = and_from _ _ (le-leb 1 _ is.node.least) (le-leb _ 9 is.node.most) in
    and_from _ _ (and_from _ _ node (le-leb 1 _ is.incarnation.least)) (le-leb 1 _ is.serial.least)

chosen : (test : Bool) (number id : ℕ) → cond test (Some number) None ≡ Some id → (test ≡ true) × (number ≡ id)
chosen true number id same = (refl, cc)
chosen false number id same = absurd (cc)

no_choice : (test : Bool) (number : ℕ) → (test ≡ true → ⊥) → cond test (Some number) None ≡ None
no_choice true number never = absurd (never refl)
no_choice false number _ = refl

-- ---- what a text names, by its digits and their number

pub named : (text : List ℕ) (number : ℕ) → is_ten_digits text ≡ true → number ≡ digits_value 10 text → IsId number → id_in text ≡ Some number
unfolding id_in
named text number are value is = rw (← value, are, is_id-told number is) refl

pub not_digits : (text : List ℕ) → is_ten_digits text ≡ false → id_in text ≡ None
unfolding id_in
not_digits text none = rw none refl

pub no_id : (text : List ℕ) (number : ℕ) → number ≡ digits_value 10 text → (IsId number → ⊥) → id_in text ≡ None
unfolding id_in
no_id text number value none = no_choice _ _ (λ both. none (rw value (is_id-tells _ (and_parts _ _ both).1)))

-- ---- and by the text of an id

pub ids_and_texts : (text : List ℕ) (id : ℕ) → (id_in text ≡ Some id) ↔ (IsId id × (text ≡ decimal id))
unfolding id_in
ids_and_texts text id = (to, from)
  where
    to : id_in text ≡ Some id → IsId id × (text ≡ decimal id)
    to names =
        let found = chosen _ _ _ names in
        let parts = and_parts _ _ found.0 in
        let is = is_id-tells (digits_value 10 text) parts.1 in
        (subst IsId found.1 is, spelled text parts.0 (omega (arith, is.node.least)) ∙ ap decimal found.1)

    from : IsId id × (text ≡ decimal id) → id_in text ≡ Some id
    from is =
        let digits = ten_digits-decimal id (omega (arith, is.0.node.least)) (omega (arith, is.0.node.most)) in
        let value = digits_value-decimal numerals id (omega (arith, is.0.node.most)) in
        rw (is.1, digits, value, is_id-told id is.0) refl

pub only_named : (text : List ℕ) (found : Option ℕ) → id_in text ≡ found → (id : ℕ) → IsId id → text ≡ decimal id → found ≡ Some id
only_named text found names id is spells = sym names ∙ (ids_and_texts text id).1 (is, spells)
