-- Receipts that wait, by their chains: the first that is for an account, and the others.
use Rattle.std.proofs.Common.{◌≡◌, ℕ, ◌<◌, ◌≤◌, Bool, true, false, cond, List, [], ◌∷◌, ◌++◌, map, filter, find, get_or, length, Some}
use Rattle.std.proofs.Common.{Result, Ok, Err}
use Rattle.std.proofs.Common.{None, refl, sym, ap, ◌∙◌, arith}
use Rattle.std.specs.Prelude.{OnOk, is_ok, nat_lt, option_map, if◌then◌else◌}
use Rattle.std.specs.List.{position, remove}
use Rattle.std.proofs.lemmas.Bool.Decides.{nat_tests}
use Rattle.std.proofs.lemmas.List.{length-map, map-append}
use Rattle.mc_model.specs.message.Chain.{Chain}
use Rattle.mc_model.specs.node.Outputs.{Receipt}
use Rattle.sessions.specs.Windows.{without_first}
use Rattle.esme_service.specs.Reports.{is_for, most_waiting, waits_for}
use Rattle.node_model.specs.Reported.{receipt_of}
use Rattle.sessions.proofs.Firsts.{found_first, found_none, left_first, stays}

module _ {A B : Type 0} (f : A → B) (test : B → Bool) where
  abbrev tests : A → Bool
  tests x = test (f x)

  -- ---- of what is mapped, by what it is mapped from

  pub filter_mapped : (xs : List A) → map f (filter tests xs) ≡ filter test (map f xs)
  filter_mapped [] = refl
  filter_mapped (x ∷ xs) = by_test (test (f x)) (filter_mapped xs)
    where
      by_test : (b : Bool) → map f (filter tests xs) ≡ filter test (map f xs)
          → map f (cond b (x ∷ filter tests xs) (filter tests xs)) ≡ cond b (f x ∷ filter test (map f xs)) (filter test (map f xs))
      by_test true others = ap (λ ys. f x ∷ ys) others
      by_test false others = others

  pub find_mapped : (xs : List A) → option_map f (find tests xs) ≡ find test (map f xs)
  find_mapped [] = refl
  find_mapped (x ∷ xs) = by_test (test (f x)) (find_mapped xs)
    where
      by_test : (b : Bool) → option_map f (find tests xs) ≡ find test (map f xs)
          → option_map f (cond b (Some x) (find tests xs)) ≡ cond b (Some (f x)) (find test (map f xs))
      by_test true others = refl
      by_test false others = others

  pub without_mapped : (xs : List A) → map f (without_first tests xs) ≡ without_first test (map f xs)
  without_mapped [] = refl
  without_mapped (x ∷ xs) = by_test (test (f x)) (without_mapped xs)
    where
      by_test : (b : Bool) → map f (without_first tests xs) ≡ without_first test (map f xs)
          → map f (cond b xs (x ∷ without_first tests xs)) ≡ cond b (map f xs) (f x ∷ without_first test (map f xs))
      by_test true others = refl
      by_test false others = ap (λ ys. f x ∷ ys) others

  -- ---- by its position

  module _ (xs : List A) where
    pub nothing_found : position tests xs ≡ None → find test (map f xs) ≡ None
    nothing_found nowhere = sym (find_mapped xs) ∙ ap (option_map f) (found_none tests xs nowhere)

    pub nothing_left : position tests xs ≡ None → map f xs ≡ without_first test (map f xs)
    nothing_left nowhere = ap (map f) (sym (stays tests xs (found_none tests xs nowhere))) ∙ without_mapped xs

    pub found_there : (i : ℕ) (x : A) → position tests xs ≡ Some i → Some (f (get_or xs i x)) ≡ find test (map f xs)
    found_there i x stands = sym (ap (option_map f) (found_first tests xs i x stands)) ∙ find_mapped xs

    pub left_there : (i : ℕ) (x : A) → position tests xs ≡ Some i → map f (remove xs i) ≡ without_first test (map f xs)
    left_there i x stands = ap (map f) (sym (left_first tests xs i x stands)) ∙ without_mapped xs

-- ---- one more

pub counted : (account : List ℕ) (chains : List Chain)
    → length (filter (λ chain. is_for account (receipt_of chain)) chains) ≡ length (filter (is_for account) (map receipt_of chains))
counted account chains =
    sym (length-map (filter (λ chain. is_for account (receipt_of chain)) chains) receipt_of) ∙ ap length (filter_mapped receipt_of (is_for account) chains)

-- as many wait as may
pub full : (account : List ℕ) (waiting : List Receipt) (receipt : Receipt) → 10000 ≤ length (filter (is_for account) waiting)
    → waiting ≡ waits_for account waiting receipt
full account waiting receipt over =
    let test : nat_lt (length (filter (is_for account) waiting)) most_waiting ≡ false = grind (arith, nat_tests) in
    ap (λ (b : Bool). cond b (waiting ++ receipt ∷ []) waiting) (sym test)

pub has_room : (account : List ℕ) (waiting : List Receipt) (receipt : Receipt) → length (filter (is_for account) waiting) < 10000
    → waiting ++ receipt ∷ [] ≡ waits_for account waiting receipt
has_room account waiting receipt below =
    let test : nat_lt (length (filter (is_for account) waiting)) most_waiting ≡ true = grind (arith, nat_tests) in
    ap (λ (b : Bool). cond b (waiting ++ receipt ∷ []) waiting) (sym test)

-- by their chains
pub one_more : (chains : List Chain) (chain : Chain) → map receipt_of (chains ++ chain ∷ []) ≡ map receipt_of chains ++ receipt_of chain ∷ []
one_more chains chain = map-append receipt_of chains (chain ∷ [])

-- what was added if it succeeded
pub items_if : {A E T : Type 0} (r : Result A E) (xs more less : List T) → xs ≡ (if is_ok r then more else less) → OnOk r (xs ≡ more)
items_if (Ok x) xs more less is = is
items_if (Err fault) xs more less is = tt

-- of what succeeded this follows
pub if_ok : {A E : Type 0} (r : Result A E) (P Q : Type 0) → (P → Q) → OnOk r P → OnOk r Q
if_ok (Ok x) P Q to is = to is
if_ok (Err fault) P Q to is = tt
