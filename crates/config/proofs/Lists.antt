-- What is in an array, and what holds of each of a list.
use Rattle.std.proofs.Common.{◌≡◌, Bool, true, false, ◌&&◌, ◌||◌, cond, ℕ, zero, suc, ◌+◌, ◌<◌, List, [], ◌∷◌, ◌++◌, length, ◌==◌, map}
use Rattle.std.proofs.Common.{Option, Some, option_map, take, get_or, refl, sym, ap, subst, ◌∙◌, arith}
use Rattle.std.proofs.lemmas.Bool.{ne_eqb}
use Rattle.std.proofs.lemmas.List.{take_more}
use Rattle.std.specs.List.{AllByRecursion, find, list_all, list_any}
use Rattle.toml.specs.Data.{Data}
use Rattle.toml.specs.declared.value.Value.{Value}
use Rattle.toml.specs.View.{view, items_view}
use Rattle.config.specs.Rows.{listed}
use Rattle.config.specs.Faults.{is_empty}

pub listed_view : (values : List Value) → listed (items_view values) ≡ map view values
listed_view [] = refl
listed_view (first ∷ others) = ap (λ (ds : List Data). view first ∷ ds) (listed_view others)

pub empty_view : (values : List Value) → is_empty (listed (items_view values)) ≡ (length values == 0)
empty_view [] = refl
empty_view (first ∷ others) = sym (ne_eqb (suc (length others)) 0 (λ same. absurd (omega arith)))

all_last : {A : Type 0} (P : A → Type 0) (xs : List A) (x : A) → AllByRecursion P xs → P x → AllByRecursion P (xs ++ x ∷ [])
all_last P [] x all here = (here, tt)
all_last P (y ∷ ys) x all here = (all.0, all_last P ys x all.1 here)

-- one more holds
pub all_more : {A : Type 0} (P : A → Type 0) (xs : List A) (place : ℕ) (x : A) → place < length xs → x ≡ get_or xs place x → P x →
    AllByRecursion P (take place xs) →
    AllByRecursion P (take (place + 1) xs)
all_more {A} P xs place x below is here all =
    let more : take (place + 1) xs ≡ take place xs ++ x ∷ [] = take_more xs place x below ∙ ap (λ (y : A). take place xs ++ y ∷ []) (sym is) in
    subst (AllByRecursion P) (sym more) (all_last P (take place xs) x all here)

pub all_of_map : {A B : Type 0} (p : B → Bool) (f : A → B) (xs : List A) → list_all p (map f xs) ≡ list_all (λ x. p (f x)) xs
all_of_map p f [] = refl
all_of_map p f (x ∷ xs) = ap (λ (b : Bool). p (f x) && b) (all_of_map p f xs)

pub any_of_map : {A B : Type 0} (p : B → Bool) (f : A → B) (xs : List A) → list_any p (map f xs) ≡ list_any (λ x. p (f x)) xs
any_of_map p f [] = refl
any_of_map p f (x ∷ xs) = ap (λ (b : Bool). p (f x) || b) (any_of_map p f xs)

pub all_at : {A : Type 0} (P : A → Type 0) (xs : List A) (place : ℕ) (x : A) → place < length xs → x ≡ get_or xs place x → AllByRecursion P xs → P x
all_at {A} P xs place x below is all = at xs place below x is all
  where
    at : (xs : List A) (place : ℕ) → place < length xs → (x : A) → x ≡ get_or xs place x → AllByRecursion P xs → P x
    at [] place below x is all = absurd (omega arith)
    at (y ∷ ys) zero below x is all = subst P (sym is) all.0
    at (y ∷ ys) (suc place) below x is all = at ys place (omega arith) x is all.1

pub all_from_map : {A B : Type 0} (P : B → Type 0) (f : A → B) (xs : List A) → AllByRecursion (λ x. P (f x)) xs → AllByRecursion P (map f xs)
all_from_map P f [] all = tt
all_from_map P f (x ∷ xs) all = (all.0, all_from_map P f xs all.1)

pub all_to_map : {A B : Type 0} (P : B → Type 0) (f : A → B) (xs : List A) → AllByRecursion P (map f xs) → AllByRecursion (λ x. P (f x)) xs
all_to_map P f [] all = tt
all_to_map P f (x ∷ xs) all = (all.0, all_to_map P f xs all.1)

found_either : {A B : Type 0} (f : A → B) (x : A) (found : Option A) (b : Bool) →
    option_map f (cond b (Some x) found) ≡ cond b (Some (f x)) (option_map f found)
found_either f x found true = refl
found_either f x found false = refl

pub find_of_map : {A B : Type 0} (p : B → Bool) (f : A → B) (xs : List A) → option_map f (find (λ x. p (f x)) xs) ≡ find p (map f xs)
find_of_map p f [] = refl
find_of_map {A} {B} p f (x ∷ xs) =
    found_either f x (find (λ y. p (f y)) xs) (p (f x)) ∙ ap (λ (o : Option B). cond (p (f x)) (Some (f x)) o) (find_of_map p f xs)

pub all_weaker : {A : Type 0} (P Q : A → Type 0) → ((x : A) → P x → Q x) → (xs : List A) → AllByRecursion P xs → AllByRecursion Q xs
all_weaker P Q f [] all = tt
all_weaker P Q f (x ∷ xs) all = (f x all.0, all_weaker P Q f xs all.1)
