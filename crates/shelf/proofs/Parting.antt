-- What is read or changed of a list in parts lies in the part of its key.
use Rattle.std.proofs.Common.{◌≡◌, ℕ, zero, suc, ◌<◌, ◌≤◌, ◌+◌, ◌-◌, drop, List, [], ◌∷◌, ◌++◌, length, get_or, set, map, refl, sym, ap, ◌∙◌, arith}
use Rattle.std.specs.List.{AllByRecursion}
use Rattle.std.specs.List.{slice_get}
use Rattle.std.specs.Global.{Vec}
use Rattle.std.proofs.lemmas.List.{append-nil, drop_more, map-append}
use Rattle.shelf.specs.Parted.{LieFrom, all_in, joined, lists_of, part_of}

-- a key in a later part is higher
pub higher_part : (one other : ℕ) → part_of one < part_of other → one < other
higher_part one other later = omega arith

pub all_joined : {A : Type 0} (P : A → Type 0) (xs ys : List A) → AllByRecursion P xs → AllByRecursion P ys → AllByRecursion P (xs ++ ys)
all_joined P [] ys first second = second
all_joined P (x ∷ xs) ys first second = (first.0, all_joined P xs ys first.1 second)

pub all_so : {A : Type 0} (P Q : A → Type 0) → ((a : A) → P a → Q a) → (xs : List A) → AllByRecursion P xs → AllByRecursion Q xs
all_so P Q so [] all = tt
all_so P Q so (x ∷ xs) all = (so x all.0, all_so P Q so xs all.1)

module _ {A : Type 0} (key : A → ℕ) (at : ℕ) where
  -- what is read at a key is not among higher or lower ones
  pub record IsReadAt {B : Type 0} (read : List A → B) : Type 0 where
    pub front : (xs ys : List A) → AllByRecursion (λ y. at < key y) ys → read (xs ++ ys) ≡ read xs
    pub behind : (xs ys : List A) → AllByRecursion (λ x. key x < at) xs → read (xs ++ ys) ≡ read ys

  -- a change at a key leaves higher and lower ones where they are
  pub record IsChangeAt (change : List A → List A) : Type 0 where
    pub front : (xs ys : List A) → AllByRecursion (λ y. at < key y) ys → change (xs ++ ys) ≡ change xs ++ ys
    pub behind : (xs ys : List A) → AllByRecursion (λ x. key x < at) xs → change (xs ++ ys) ≡ xs ++ change ys

  higher : (place : ℕ) (lists : List (List A)) → LieFrom key place lists → part_of at < place → AllByRecursion (λ y. at < key y) (joined lists)
  higher place [] lie before = tt
  higher place (list ∷ lists) lie before =
      all_joined (λ y. at < key y) list (joined lists)
      (all_so (λ a. part_of (key a) ≡ place) (λ y. at < key y) (λ a is. higher_part at (key a) (omega (arith, is, before))) list lie.0)
      (higher (place + 1) lists lie.1 (omega arith))

  lower : (place : ℕ) (list : List A) → AllByRecursion (λ a. part_of (key a) ≡ place) list → place < part_of at → AllByRecursion (λ x. key x < at) list
  lower place list all before =
      all_so (λ a. part_of (key a) ≡ place) (λ x. key x < at) (λ a is. higher_part (key a) at (omega (arith, is, before))) list all

  pub read_from : {B : Type 0} (read : List A → B) → IsReadAt read → (place k : ℕ) (lists : List (List A)) → LieFrom key place lists →
      part_of at ≡ place + k → k < length lists → read (joined lists) ≡ read (get_or lists k [])
  read_from read local place k [] lie is within = absurd (omega arith)
  read_from read local place zero (list ∷ lists) lie is within = local.front list (joined lists) (higher (place + 1) lists lie.1 (omega arith))
  read_from read local place (suc k) (list ∷ lists) lie is within =
      local.behind list (joined lists) (lower place list lie.0 (omega arith))
      ∙ read_from read local (place + 1) k lists lie.1 (omega arith) (omega arith)

  pub changed_from : (change : List A → List A) → IsChangeAt change → (place k : ℕ) (lists : List (List A)) → LieFrom key place lists →
      part_of at ≡ place + k → k < length lists → change (joined lists) ≡ joined (set lists k (change (get_or lists k [])))
  changed_from change local place k [] lie is within = absurd (omega arith)
  changed_from change local place zero (list ∷ lists) lie is within = local.front list (joined lists) (higher (place + 1) lists lie.1 (omega arith))
  changed_from change local place (suc k) (list ∷ lists) lie is within =
      local.behind list (joined lists) (lower place list lie.0 (omega arith))
      ∙ ap (λ rest. list ++ rest) (changed_from change local (place + 1) k lists lie.1 (omega arith) (omega arith))

  pub read_in : {B : Type 0} (read : List A → B) → IsReadAt read → (lists : List (List A)) → LieFrom key 0 lists → part_of at < length lists →
      read (joined lists) ≡ read (get_or lists (part_of at) [])
  read_in read local lists lie within = read_from read local 0 (part_of at) lists lie (omega arith) within

  pub changed_in : (change : List A → List A) → IsChangeAt change → (lists : List (List A)) → LieFrom key 0 lists → part_of at < length lists →
      change (joined lists) ≡ joined (set lists (part_of at) (change (get_or lists (part_of at) [])))
  changed_in change local lists lie within = changed_from change local 0 (part_of at) lists lie (omega arith) within

module _ {A : Type 0} (key : A → ℕ) where
  lie_from : (place k : ℕ) (lists : List (List A)) → LieFrom key place lists → k < length lists →
      AllByRecursion (λ a. part_of (key a) ≡ place + k) (get_or lists k [])
  lie_from place k [] lie within = tt
  lie_from place zero (list ∷ lists) lie within =
      all_so (λ a. part_of (key a) ≡ place) (λ a. part_of (key a) ≡ place + 0) (λ a is. omega (arith, is)) list lie.0
  lie_from place (suc k) (list ∷ lists) lie within =
      all_so (λ a. part_of (key a) ≡ place + 1 + k) (λ a. part_of (key a) ≡ place + suc k) (λ a is. omega (arith, is)) (get_or lists k [])
      (lie_from (place + 1) k lists lie.1 (omega arith))

  -- what lies in a part
  pub lie_at : (k : ℕ) (lists : List (List A)) → LieFrom key 0 lists → k < length lists → AllByRecursion (λ a. part_of (key a) ≡ k) (get_or lists k [])
  lie_at k lists lie within =
      all_so (λ a. part_of (key a) ≡ 0 + k) (λ a. part_of (key a) ≡ k) (λ a is. omega (arith, is)) (get_or lists k []) (lie_from 0 k lists lie within)

  lie_set_from : (place k : ℕ) (lists : List (List A)) (list : List A) → LieFrom key place lists →
      AllByRecursion (λ a. part_of (key a) ≡ place + k) list → LieFrom key place (set lists k list)
  lie_set_from place k [] list lie all = tt
  lie_set_from place zero (first ∷ lists) list lie all =
      (all_so (λ a. part_of (key a) ≡ place + 0) (λ a. part_of (key a) ≡ place) (λ a is. omega (arith, is)) list all, lie.1)
  lie_set_from place (suc k) (first ∷ lists) list lie all = (
    lie.0,
    lie_set_from (place + 1) k lists list lie.1
        (all_so (λ a. part_of (key a) ≡ place + suc k) (λ a. part_of (key a) ≡ place + 1 + k) (λ a is. omega (arith, is)) list all),
  )

  -- one part is changed
  pub lie_set : (k : ℕ) (lists : List (List A)) (list : List A) → LieFrom key 0 lists → AllByRecursion (λ a. part_of (key a) ≡ k) list →
      LieFrom key 0 (set lists k list)
  lie_set k lists list lie all =
      lie_set_from 0 k lists list lie (all_so (λ a. part_of (key a) ≡ k) (λ a. part_of (key a) ≡ 0 + k) (λ a is. omega (arith, is)) list all)

  -- nothing lies anywhere
  pub lie_none : (place : ℕ) (lists : List (List A)) → joined lists ≡ [] → LieFrom key place lists
  lie_none place [] none = tt
  lie_none place ([] ∷ lists) none = (tt, lie_none (place + 1) lists none)
  lie_none place ((x ∷ xs) ∷ lists) none = absurd (cc)

-- nothing lies in the first, nor in the others
pub none_in : {A : Type 0} (list : List A) (lists : List (List A)) → joined (list ∷ lists) ≡ [] → (list ≡ []) × (joined lists ≡ [])
none_in [] lists none = (refl, none)
none_in (x ∷ xs) lists none = absurd (cc)

both_none : {A : Type 0} (xs ys : List A) → xs ≡ [] → ys ≡ [] → xs ++ ys ≡ []
both_none xs ys none other = rw (none, other) refl

-- ---- of what lies in all

pub map_joined : {A B : Type 0} (f : A → B) (lists : List (List A)) → map f (joined lists) ≡ joined (map (map f) lists)
map_joined f [] = refl
map_joined f (list ∷ lists) = map-append f list (joined lists) ∙ ap (λ rest. map f list ++ rest) (map_joined f lists)

-- ---- of the parts of a list

module _ {T : Type 0} where
  pub all_drop : (parts : List (Vec T)) (place : ℕ) (part : Vec T) → place < length parts → part ≡ get_or parts place part →
      all_in (drop place parts) ≡ part.items ++ all_in (drop (place + 1) parts)
  all_drop parts place part within read = ap all_in (drop_more parts place part within) ∙ ap (λ (p : Vec T). p.items ++ all_in (drop (place + 1) parts)) (sym read)

  pub none_but_last : (parts : List (Vec T)) (part : Vec T) → all_in (parts ++ part ∷ []) ≡ [] → (all_in parts ≡ []) × (part.items ≡ [])
  none_but_last [] part none = (refl, sym (append-nil part.items) ∙ none)
  none_but_last (first ∷ parts) part none =
      let parted = none_in first.items (lists_of (parts ++ part ∷ [])) none in
      let others = none_but_last parts part parted.1 in
      (both_none first.items (all_in parts) parted.0 others.0, others.1)

-- the item at a place of two lists
module _ {A : Type 0} where
  pub at_front : (xs ys : List A) (place : ℕ) → place < length xs → slice_get (xs ++ ys) place ≡ slice_get xs place
  at_front [] ys place within = absurd (omega arith)
  at_front (x ∷ xs) ys zero within = refl
  at_front (x ∷ xs) ys (suc place) within = at_front xs ys place (omega arith)

  pub at_rest : (xs ys : List A) (place : ℕ) → length xs ≤ place → slice_get (xs ++ ys) place ≡ slice_get ys (place - length xs)
  at_rest [] ys place from = let same : place - 0 ≡ place = omega arith in rw same refl
  at_rest (x ∷ xs) ys zero from = absurd (omega arith)
  at_rest (x ∷ xs) ys (suc place) from =
      let same : suc place - suc (length xs) ≡ place - length xs = omega arith in
      rw same (at_rest xs ys place (omega arith))
