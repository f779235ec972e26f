-- An entry that is put among others and taken out again.
use Rattle.std.proofs.Common.{◌≡◌, ℕ, Bool, true, false, cond, List, [], ◌∷◌, None, Some, Option, ap, refl}
use Rattle.std.specs.Ordering.{is_eq, nat_cmp, match_ordering}
use Rattle.std.specs.declared.cmp.Ordering.{Ordering}
use Rattle.std.specs.declared.cmp.Ordering.TheVariants.{Less, Equal, Greater}
use Rattle.std.specs.BTreeMap.{insert_entry, is_at}
use Rattle.std.specs.Map.{lookup, remove_entry}
use Rattle.std.proofs.lemmas.Bool.{eq-eqb}
use Rattle.waiting_messages.proofs.Standing.{same_test}

is_itself : (id : ℕ) → is_eq (nat_cmp id id) ≡ true
is_itself id = rw (same_test id id) (eq-eqb id id refl)

back_at : (id from : ℕ) (entry : ℕ × ℕ) (rest more : List (ℕ × ℕ)) (order : Ordering) → nat_cmp id entry.0 ≡ order → (is_eq order ≡ false) →
    remove_entry (is_at (nat_cmp id)) more ≡ rest →
    remove_entry (is_at (nat_cmp id)) (match_ordering order ((id, from) ∷ entry ∷ rest) ((entry.0, from) ∷ rest) (entry ∷ more)) ≡ entry ∷ rest
back_at id from entry rest more Less e apart same = rw (is_itself id) refl
back_at id from entry rest more Equal e apart same = absurd (cc)
back_at id from entry rest more Greater e apart same = rw e (ap (λ (es : List (ℕ × ℕ)). entry ∷ es) same)

apart_of : (is : Bool) (moment : ℕ) (rest : Option ℕ) → cond is (Some moment) rest ≡ None → (is ≡ false) × (rest ≡ None)
apart_of true moment rest e = absurd (cc)
apart_of false moment rest e = (refl, e)

-- one that was not there
pub remove-insert : (id from : ℕ) (entries : List (ℕ × ℕ)) → lookup (is_at (nat_cmp id)) entries ≡ None →
    remove_entry (is_at (nat_cmp id)) (insert_entry nat_cmp entries id from) ≡ entries
remove-insert id from [] absent = rw (is_itself id) refl
remove-insert id from (entry ∷ rest) absent =
    let apart = apart_of (is_eq (nat_cmp id entry.0)) entry.1 (lookup (is_at (nat_cmp id)) rest) absent in
    back_at id from entry rest (insert_entry nat_cmp rest id from) (nat_cmp id entry.0) refl apart.0 (remove-insert id from rest apart.1)
