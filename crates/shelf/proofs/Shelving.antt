-- A shelf in parts: the part of a key.
use Rattle.std.proofs.Common.{◌≡◌, ℕ, ◌<◌, ◌+◌, List, [], ◌∷◌, ◌++◌, length, get_or, set, map, None, refl, sym, ap, subst, ◌∙◌, ⊎_elim, arith}
use Rattle.std.specs.Global.{Box, Vec}
use Rattle.std.specs.List.{AllByRecursion, slice_get}
use Rattle.std.specs.Option.{option_map}
use Rattle.std.specs.List.Sorted.{IsStrictlySortedBy}
use Rattle.std.specs.Ordering.{nat_cmp}
use Rattle.std.specs.Map.{keys_of}
use Rattle.std.proofs.lemmas.List.{get_or_read, get_or-map, length-map, length-set, map-append, map-set}
use Rattle.shelf.specs.Shelved.{Shelved, value_at, with_value}
use Rattle.shelf.specs.Parted.{IsNumberOfParts, LieFrom, all_in, joined, lists_of, part_of, room_in}
use Rattle.shelf.specs.Places.{AreInParts, entries_in, entries_of, entry_of, lists_in}
use Rattle.std.proofs.lemmas.Option.{slice_get-map}
use Rattle.std.proofs.lemmas.Simd.{map-map}
use Rattle.shelf.proofs.Entries.{none_ascends, still_ascends}
use Rattle.shelf.proofs.Parting.{lie_none, map_joined}
use Rattle.shelf.proofs.Visited.{same_keys, visited}
use Rattle.shelf.proofs.Entered.{lies_put, part_ascends, put_in_part, value_of_part}

module _ {V : Type 0} (parts : List (Vec (ℕ × Box V))) where
  module _ (place : ℕ) (part : Vec (ℕ × Box V)) (within : place < length parts) (read : part ≡ get_or parts place part) where
    list_read : get_or (lists_in parts) place [] ≡ entries_of part.items
    list_read =
        get_or-map (λ (p : Vec (ℕ × Box V)). entries_of p.items) parts place part [] within ∙ sym (ap (λ (p : Vec (ℕ × Box V)). entries_of p.items) read)

    pub ascends_in_part : IsStrictlySortedBy nat_cmp (keys_of (entries_in parts)) → IsStrictlySortedBy nat_cmp (keys_of (entries_of part.items))
    ascends_in_part ascends = subst (λ (es : List (ℕ × V)). IsStrictlySortedBy nat_cmp (keys_of es)) list_read (part_ascends (lists_in parts) place ascends)

  within_lists : (place : ℕ) → place < length parts → place < length (lists_in parts)
  within_lists place within = omega (arith, length-map parts (λ (p : Vec (ℕ × Box V)). entries_of p.items), within)

  module _ (key : ℕ) (part : Vec (ℕ × Box V)) (lie : LieFrom (λ e. e.0) 0 (lists_in parts)) (within : part_of key < length parts)
      (read : part ≡ get_or parts (part_of key) part) where
    pub value_is : value_at (entries_in parts) key ≡ value_at (entries_of part.items) key
    value_is =
        value_of_part (lists_in parts) key lie (within_lists (part_of key) within)
        ∙ ap (λ (es : List (ℕ × V)). value_at es key) (list_read (part_of key) part within read)

    module _ (value : V) (after : Vec (ℕ × Box V)) (is : entries_of after.items ≡ with_value (entries_of part.items) key value) where
      lists_are : lists_in (set parts (part_of key) after) ≡ set (lists_in parts) (part_of key) (with_value (get_or (lists_in parts) (part_of key) []) key value)
      lists_are =
          map-set (λ (p : Vec (ℕ × Box V)). entries_of p.items) parts (part_of key) after
          ∙ ap (λ (es : List (ℕ × V)). set (lists_in parts) (part_of key) es)
          (is ∙ sym (ap (λ (es : List (ℕ × V)). with_value es key value) (list_read (part_of key) part within read)))

      pub put_is : entries_in (set parts (part_of key) after) ≡ with_value (entries_in parts) key value
      put_is = ap joined lists_are ∙ sym (put_in_part (lists_in parts) key value lie (within_lists (part_of key) within))

      pub lies_after : LieFrom (λ e. e.0) 0 (lists_in (set parts (part_of key) after))
      lies_after = subst (LieFrom (λ e. e.0) 0) (sym lists_are) (lies_put (lists_in parts) key value lie (within_lists (part_of key) within))

  -- there is a part if there is room, or a value
  pub has_part : (key : ℕ) → IsNumberOfParts (length parts) → (s : Shelved V) → record { entries = entries_in parts; room = room_in parts } ≡ s →
      (value_at s.entries key ≡ None → 0 < s.room) → part_of key < length parts
  has_part key number s view room =
      ⊎_elim
      (λ none. absurd (no_part parts none (subst (λ (t : Shelved V). value_at t.entries key ≡ None → 0 < t.room) (sym view) room)))
      (λ ten. omega (arith, ten))
      number
    where
      no_part : (some : List (Vec (ℕ × Box V))) → length some ≡ 0 → (value_at (entries_in some) key ≡ None → 0 < room_in some) → ⊥
      no_part [] none room = let more = room refl in omega (arith, more)
      no_part (p ∷ ps) none room = omega (arith, none)

  -- a part that was read at its place
  pub read_at : (key place : ℕ) (part : Vec (ℕ × Box V)) → place ≡ part_of key → part ≡ get_or parts place part → part ≡ get_or parts (part_of key) part
  read_at key place part is read = read ∙ ap (λ (n : ℕ). get_or parts n part) is

  -- it is read twice
  pub read_twice : (place : ℕ) (first second : Vec (ℕ × Box V)) → place < length parts → first ≡ get_or parts place first →
      second ≡ get_or parts place second → first ≡ second
  read_twice place first second within one other = get_or_read parts place first within one second ∙ sym other

  -- without a part there is no value
  pub no_value : (key : ℕ) → length parts ≡ 0 → value_at (entries_in parts) key ≡ None
  no_value key none = by_parts parts none
    where
      by_parts : (some : List (Vec (ℕ × Box V))) → length some ≡ 0 → value_at (entries_in some) key ≡ None
      by_parts [] none = refl
      by_parts (p ∷ ps) none = absurd (omega (arith, none))

  -- ---- what the parts of a shelf keep

  pub is_within : (key : ℕ) → IsNumberOfParts (length parts) → (length parts ≡ 0 → ⊥) → part_of key < length parts
  is_within key number some = ⊎_elim (λ none. absurd (some none)) (λ ten. omega (arith, ten)) number

  pub still_in_parts : (key : ℕ) (part : Vec (ℕ × Box V)) → AreInParts parts → part_of key < length parts → part ≡ get_or parts (part_of key) part →
      (value : V) (after : Vec (ℕ × Box V)) → entries_of after.items ≡ with_value (entries_of part.items) key value →
      AreInParts (set parts (part_of key) after)
  still_in_parts key part are within read value after is = record {
    ascend = subst (λ (es : List (ℕ × V)). IsStrictlySortedBy nat_cmp (keys_of es)) (sym (put_is key part are.lie within read value after is))
        (still_ascends (entries_in parts) key value are.ascend);
    lie = lies_after key part are.lie within read value after is;
    number = subst IsNumberOfParts (sym (length-set parts (part_of key) after)) are.number;
  }

module _ {V : Type 0} where
  pub entries_all : (parts : List (Vec (ℕ × Box V))) → entries_in parts ≡ entries_of (all_in parts)
  entries_all [] = refl
  entries_all (part ∷ parts) =
      ap (λ (es : List (ℕ × V)). entries_of part.items ++ es) (entries_all parts) ∙ sym (map-append entry_of part.items (all_in parts))

  pub how_many : (parts : List (Vec (ℕ × Box V))) → length (entries_in parts) ≡ length (all_in parts)
  how_many parts = ap length (entries_all parts) ∙ length-map (all_in parts) entry_of

  pub seen_in_place : (parts : List (Vec (ℕ × Box V))) (place : ℕ) → slice_get (entries_in parts) place ≡ option_map entry_of (slice_get (all_in parts) place)
  seen_in_place parts place = ap (λ (es : List (ℕ × V)). slice_get es place) (entries_all parts) ∙ slice_get-map entry_of (all_in parts) place

  pub no_entries : (parts : List (Vec (ℕ × Box V))) → all_in parts ≡ [] → entries_in parts ≡ []
  no_entries parts none = entries_all parts ∙ ap entries_of none

  -- nothing lies in them
  pub empty_in_parts : (parts : List (Vec (ℕ × Box V))) → IsNumberOfParts (length parts) → all_in parts ≡ [] → AreInParts parts
  empty_in_parts parts number none = record {
    ascend = none_ascends (entries_in parts) (no_entries parts none);
    lie = lie_none (λ e. e.0) 0 (lists_in parts) (no_entries parts none);
    number = number;
  }

  pub no_parts : (parts : List (Vec (ℕ × Box V))) → length parts ≡ 0 → (entries_in parts ≡ []) × (room_in parts ≡ 0)
  no_parts [] none = (refl, refl)
  no_parts (part ∷ parts) none = absurd (omega (arith, none))

  -- the same lies in others
  pub same_lists_in : (new old : List (Vec (ℕ × Box V))) → lists_of new ≡ lists_of old → lists_in new ≡ lists_in old
  same_lists_in new old same =
      sym (map-map entries_of (λ (p : Vec (ℕ × Box V)). p.items) new)
      ∙ ap (map entries_of) same
      ∙ map-map entries_of (λ (p : Vec (ℕ × Box V)). p.items) old

  length_lists : (parts : List (Vec (ℕ × Box V))) → length (lists_in parts) ≡ length parts
  length_lists parts = length-map parts (λ (p : Vec (ℕ × Box V)). entries_of p.items)

  pub same_in_parts : (new old : List (Vec (ℕ × Box V))) → lists_in new ≡ lists_in old → AreInParts old → AreInParts new
  same_in_parts new old same are = record {
    ascend = subst (λ (lists : List (List (ℕ × V))). IsStrictlySortedBy nat_cmp (keys_of (joined lists))) (sym same) are.ascend;
    lie = subst (LieFrom (λ e. e.0) 0) (sym same) are.lie;
    number = subst IsNumberOfParts (sym (length_lists old) ∙ ap length (sym same) ∙ length_lists new) are.number;
  }

  -- each value is visited
  module _ (f : V → V) where
    visited_lie : (place : ℕ) (lists : List (List (ℕ × V))) → LieFrom (λ e. e.0) place lists → LieFrom (λ e. e.0) place (map (map (visited f)) lists)
    visited_lie place [] lie = tt
    visited_lie place (list ∷ lists) lie = (all_visited_so list lie.0, visited_lie (place + 1) lists lie.1)
      where
        all_visited_so : (es : List (ℕ × V)) → AllByRecursion (λ e. part_of e.0 ≡ place) es → AllByRecursion (λ e. part_of e.0 ≡ place) (map (visited f) es)
        all_visited_so [] all = tt
        all_visited_so (e ∷ es) all = (all.0, all_visited_so es all.1)

    pub visited_are : (new old : List (Vec (ℕ × Box V))) → lists_in new ≡ map (map (visited f)) (lists_in old) → entries_in new ≡ map (visited f) (entries_in old)
    visited_are new old leaves = ap joined leaves ∙ sym (map_joined (visited f) (lists_in old))

    pub visited_in_parts : (new old : List (Vec (ℕ × Box V))) → lists_in new ≡ map (map (visited f)) (lists_in old) → AreInParts old → AreInParts new
    visited_in_parts new old leaves are = record {
      ascend = subst (IsStrictlySortedBy nat_cmp) (sym (ap keys_of (visited_are new old leaves) ∙ same_keys f (entries_in old))) are.ascend;
      lie = subst (LieFrom (λ e. e.0) 0) (sym leaves) (visited_lie 0 (lists_in old) are.lie);
      number = subst IsNumberOfParts
          (sym (length_lists old) ∙ sym (length-map (lists_in old) (map (visited f))) ∙ ap length (sym leaves) ∙ length_lists new) are.number;
    }
