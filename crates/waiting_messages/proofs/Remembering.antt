-- Which accounts are remembered.
use Rattle.std.proofs.Common.{◌≡◌, ℕ, ◌<◌, Bool, true, false, cond, List, [], ◌∷◌, zero, suc, get_or, length, arith, refl, ltb, Some, None, not, rules}
use Rattle.std.specs.Prelude.{position}
use Rattle.std.specs.List.{position_or_len}
use Rattle.std.specs.Str.{bytes_eq}
use Rattle.std.proofs.lemmas.List.Sums.{passes_at_first}
use Rattle.std.proofs.lemmas.Slice.Eq.{bytes_eq-Decides}
use Rattle.std.proofs.lemmas.Bool.Decides.{nat_tests}
use Rattle.waiting_messages.specs.Accounts.{is_among}
use Rattle.waiting_messages.specs.Presences.{Seen, absent_in, is_of}

none_behind : (account : List ℕ) (others : List (List ℕ)) (among : Bool) → cond (not among) (account ∷ others) others ≡ [] → others ≡ []
none_behind account others true e = e
none_behind account others false e = absurd (cc)

-- an account that is remembered and is not among these is told
pub absent_told : (accounts : List (List ℕ)) (presence : List Seen) (i : ℕ) (d : Seen) → i < length presence →
    is_among (get_or presence i d).account accounts ≡ false → absent_in accounts presence ≡ [] → ⊥
absent_told accounts [] i d below apart none = omega arith
absent_told accounts (seen ∷ others) zero d below apart none =
    let told : absent_in accounts (seen ∷ others) ≡ seen.account ∷ absent_in accounts others = rw apart refl in cc
absent_told accounts (seen ∷ others) (suc i) d below apart none =
    absent_told accounts others i d (omega arith) apart (none_behind seen.account (absent_in accounts others) (is_among seen.account accounts) none)

-- what is found is that of the account
pub found_account : (account : List ℕ) (presence : List Seen) (place : ℕ) (d : Seen) → position (is_of account) presence ≡ Some place →
    (get_or presence place d).account ≡ account
found_account account presence place d e =
    let is = some_is (ltb (position_or_len (is_of account) presence) (length presence)) (position_or_len (is_of account) presence) place e in
    let below : position_or_len (is_of account) presence < length presence = grind (arith, nat_tests, is.0) in
    rw is.1 at (let same : bytes_eq (get_or presence (position_or_len (is_of account) presence) d).account account ≡ true = passes_at_first (is_of account) presence d below in
    (bytes_eq-Decides (get_or presence (position_or_len (is_of account) presence) d).account account).0 same)
  where
    some_is : (is : Bool) (m n : ℕ) → cond is (Some m) None ≡ Some n → (is ≡ true) × (m ≡ n)
    some_is true m n e = (refl, cc)
    some_is false m n e = absurd (cc)
