-- The least room that a part of a list has.
use Rattle.std.proofs.Common.{◌≡◌, ℕ, zero, suc, ◌<◌, ◌≤◌, ◌+◌, ◌-◌, min, max, List, [], ◌∷◌, ◌++◌, length, get_or, set, map, refl, sym, ap, subst, ⊎_elim, ◌∙◌, arith}
use Rattle.std.specs.Global.{Vec}
use Rattle.std.specs.Vec.{vec_capacity}
use Rattle.std.proofs.lemmas.List.{length-append, length-map, length_push, get_or-set_same, get_or-set_other, get_or-map, map-set, length-set, set-get_or}
use Rattle.std.proofs.lemmas.Bool.{cases_eq}
use Rattle.shelf.proofs.Parting.{none_in}
use Rattle.shelf.specs.Parted.{all_in, free_in, frees_of, joined, least_in, least_of, lists_of, room_in, wide_in}

-- ---- the least of numbers

least_first : (n : ℕ) (ns : List ℕ) → least_of n ns ≤ n
least_first n [] = omega arith
least_first n (m ∷ ms) = let rest = least_first (min n m) ms in omega (arith, rest)

least_at : (n : ℕ) (ns : List ℕ) (k : ℕ) → k < length ns → least_of n ns ≤ get_or ns k 0
least_at n [] k within = absurd (omega arith)
least_at n (m ∷ ms) zero within = let rest = least_first (min n m) ms in omega (arith, rest)
least_at n (m ∷ ms) (suc k) within = least_at (min n m) ms k (omega arith)

pub least_under : (ns : List ℕ) (k : ℕ) → k < length ns → least_in ns ≤ get_or ns k 0
least_under [] k within = absurd (omega arith)
least_under (n ∷ ns) zero within = least_first n ns
least_under (n ∷ ns) (suc k) within = least_at n ns k (omega arith)

over_all : (low n : ℕ) (ns : List ℕ) → low ≤ n → ((k : ℕ) → k < length ns → low ≤ get_or ns k 0) → low ≤ least_of n ns
over_all low n [] first all = first
over_all low n (m ∷ ms) first all =
    let next : low ≤ m = all 0 (omega arith) in
    over_all low (min n m) ms (omega arith) (λ k within. all (suc k) (omega arith))

pub least_over : (low : ℕ) (ns : List ℕ) → 0 < length ns → ((k : ℕ) → k < length ns → low ≤ get_or ns k 0) → low ≤ least_in ns
least_over low [] some all = absurd (omega arith)
least_over low (n ∷ ns) some all = over_all low n ns (all 0 (omega arith)) (λ k within. all (suc k) (omega arith))

-- none is less than before
pub least_grows : (ms ns : List ℕ) → length ms ≡ length ns → ((k : ℕ) → k < length ns → get_or ms k 0 ≤ get_or ns k 0) → least_in ms ≤ least_in ns
least_grows [] ns same all = omega arith
least_grows (m ∷ ms) ns same all =
    least_over (least_in (m ∷ ms)) ns (omega (arith, same)) (λ k within. omega (arith, least_under (m ∷ ms) k (omega (arith, same)), all k within))

-- ---- the room of a part

module _ {T : Type 0} where
  abbrev pub room_at : List (Vec T) → ℕ → ℕ
  room_at parts k = get_or (map (λ part. vec_capacity part) parts) k 0

  abbrev pub many_at : List (List T) → ℕ → ℕ
  many_at lists k = get_or (map length lists) k 0

  free_at : (parts : List (Vec T)) (k : ℕ) → get_or (frees_of parts) k 0 ≡ room_at parts k - many_at (lists_of parts) k
  free_at [] k = refl
  free_at (part ∷ parts) zero = ap (λ (n : ℕ). vec_capacity part - n) part.ok.0
  free_at (part ∷ parts) (suc k) = free_at parts k

  many_most : (lists : List (List T)) (k : ℕ) → many_at lists k ≤ length (joined lists)
  many_most [] k = omega arith
  many_most (list ∷ lists) zero = let sum = length-append list (joined lists) in omega (arith, sum)
  many_most (list ∷ lists) (suc k) = let rest = many_most lists k in let sum = length-append list (joined lists) in omega (arith, rest, sum)

  -- what is moved into a wider part keeps its room at least
  pub room_kept : (old new : List (Vec T)) → lists_of new ≡ lists_of old → length old ≡ length new → ((k : ℕ) → room_at old k ≤ room_at new k) →
      room_in old ≤ room_in new
  room_kept old new same number wider =
      least_grows (frees_of old) (frees_of new) (length-map old free_in ∙ number ∙ sym (length-map new free_in)) (λ k within.
      let one = free_at old k in
      let other = free_at new k in
      let many : many_at (lists_of new) k ≡ many_at (lists_of old) k = ap (λ (lists : List (List T)). many_at lists k) same in
      let more = wider k in
      omega (arith, one, other, many, more))

  -- and has that of the room
  pub room_taken : (old new room : List (Vec T)) → lists_of new ≡ lists_of old → length old ≡ length new → length room ≡ length new →
      ((k : ℕ) → k < length room → room_at room k ≤ room_at new k) → room_in room - length (all_in old) ≤ room_in new
  room_taken old new [] same number as_many wider = omega arith
  room_taken old new (first ∷ others) same number as_many wider =
      let room = first ∷ others in
      let number_new = length-map new free_in in
      let number_room = length-map room free_in in
      least_over (room_in room - length (all_in old)) (frees_of new) (omega (arith, number_new, as_many)) (λ k within.
      let least = least_under (frees_of room) k (omega (arith, number_new, number_room, as_many)) in
      let one = free_at room k in
      let other = free_at new k in
      let many : many_at (lists_of new) k ≡ many_at (lists_of old) k = ap (λ (lists : List (List T)). many_at lists k) same in
      let most = many_most (lists_of old) k in
      let more = wider k (omega (arith, number_new, as_many)) in
      omega (arith, least, one, other, many, most, more))

  -- ---- one part after another is widened

  pub record AreWidened (old new room left : List (Vec T)) (place : ℕ) : Type 0 where
    pub same : lists_of new ≡ lists_of old
    pub number : length old ≡ length new
    pub others : length left ≡ length room
    pub kept : (k : ℕ) → room_at old k ≤ room_at new k
    pub wide : (k : ℕ) → k < place → room_at room k ≤ room_at new k
    pub rest : (k : ℕ) → place ≤ k → room_at left k ≡ room_at room k

  room_read : (parts : List (Vec T)) (place : ℕ) (part : Vec T) → place < length parts → part ≡ get_or parts place part →
      room_at parts place ≡ vec_capacity part
  room_read parts place part within read = get_or-map (λ (p : Vec T). vec_capacity p) parts place part 0 within ∙ sym (ap (λ (p : Vec T). vec_capacity p) read)

  room_set : (parts : List (Vec T)) (place : ℕ) (part : Vec T) (k : ℕ) →
      room_at (set parts place part) k ≡ get_or (set (map (λ p. vec_capacity p) parts) place (vec_capacity part)) k 0
  room_set parts place part k = ap (λ (ns : List ℕ). get_or ns k 0) (map-set (λ (p : Vec T). vec_capacity p) parts place part)

  room_there : (parts : List (Vec T)) (place : ℕ) (part : Vec T) → place < length parts → room_at (set parts place part) place ≡ vec_capacity part
  room_there parts place part within =
      let number = length-map parts (λ (p : Vec T). vec_capacity p) in
      room_set parts place part place ∙ get_or-set_same (map (λ p. vec_capacity p) parts) place (vec_capacity part) 0 (omega (arith, number))

  room_elsewhere : (parts : List (Vec T)) (place : ℕ) (part : Vec T) (k : ℕ) → (k ≡ place → ⊥) → room_at (set parts place part) k ≡ room_at parts k
  room_elsewhere parts place part k other = room_set parts place part k ∙ get_or-set_other (map (λ p. vec_capacity p) parts) place k (vec_capacity part) 0 other

  -- a part with the same items in the place of another
  pub lists_kept : (parts : List (Vec T)) (place : ℕ) (part after : Vec T) → part ≡ get_or parts place part → after.items ≡ part.items →
      lists_of (set parts place after) ≡ lists_of parts
  lists_kept [] place part after read same = refl
  lists_kept (first ∷ parts) zero part after read same = ap (λ (list : List T). list ∷ lists_of parts) (same ∙ ap (λ (p : Vec T). p.items) read)
  lists_kept (first ∷ parts) (suc place) part after read same = ap (λ (lists : List (List T)). first.items ∷ lists) (lists_kept parts place part after read same)

  pub widened_one : (old new room left : List (Vec T)) (place : ℕ) (part spare after emptied : Vec T) → AreWidened old new room left place →
      place < length new → place < length left → part ≡ get_or new place part → spare ≡ get_or left place spare → after.items ≡ part.items →
      max (vec_capacity part) (vec_capacity spare) ≤ vec_capacity after → AreWidened old (set new place after) room (set left place emptied) (place + 1)
  widened_one old new room left place part spare after emptied widened in_new in_left read_part read_spare same_items wider =
      let part_is = room_read new place part in_new read_part in
      let spare_is = room_read left place spare in_left read_spare in
      let there = room_there new place after in_new in
      record {
        same = lists_kept new place part after read_part same_items ∙ widened.same;
        number = widened.number ∙ sym (length-set new place after);
        others = length-set left place emptied ∙ widened.others;
        kept = λ k. ⊎_elim
            (λ same. subst (λ (n : ℕ). room_at old n ≤ room_at (set new place after) n) (sym same) (let at = widened.kept place in omega (arith, at, there, part_is, wider)))
            (λ other. let before = widened.kept k in let elsewhere = room_elsewhere new place after k other in omega (arith, before, elsewhere))
            (cases_eq k place);
        wide = λ k below. ⊎_elim
            (λ same. subst (λ (n : ℕ). room_at room n ≤ room_at (set new place after) n) (sym same)
            (let rest = widened.rest place (omega arith) in omega (arith, rest, there, spare_is, wider)))
            (λ other. let before = widened.wide k (omega (arith, other)) in let elsewhere = room_elsewhere new place after k other in omega (arith, before, elsewhere))
            (cases_eq k place);
        rest = λ k from. let other : k ≡ place → ⊥ = λ same. omega (arith, same, from) in
            room_elsewhere left place emptied k other ∙ widened.rest k (omega (arith, from));
      }

  -- so many parts are made, each with this room and nothing in it
  pub record AreAllOf (room : ℕ) (parts : List (Vec T)) (count : ℕ) : Type 0 where
    pub number : length parts ≡ count
    pub none : all_in parts ≡ []
    pub rooms : (k : ℕ) → k < length parts → get_or (frees_of parts) k 0 ≡ room
    pub widths : (k : ℕ) → k < length parts → room_at parts k ≡ room

  frees_push : (parts : List (Vec T)) (part : Vec T) (room : ℕ) → free_in part ≡ room → ((k : ℕ) → k < length parts → get_or (frees_of parts) k 0 ≡ room) →
      (k : ℕ) → k < length (parts ++ part ∷ []) → get_or (frees_of (parts ++ part ∷ [])) k 0 ≡ room
  frees_push [] part room is all zero within = is
  frees_push [] part room is all (suc k) within = absurd (omega arith)
  frees_push (first ∷ parts) part room is all zero within = all 0 (omega arith)
  frees_push (first ∷ parts) part room is all (suc k) within = frees_push parts part room is (λ n below. all (suc n) (omega arith)) k (omega arith)

  widths_push : (parts : List (Vec T)) (part : Vec T) (room : ℕ) → vec_capacity part ≡ room → ((k : ℕ) → k < length parts → room_at parts k ≡ room) →
      (k : ℕ) → k < length (parts ++ part ∷ []) → room_at (parts ++ part ∷ []) k ≡ room
  widths_push [] part room is all zero within = is
  widths_push [] part room is all (suc k) within = absurd (omega arith)
  widths_push (first ∷ parts) part room is all zero within = all 0 (omega arith)
  widths_push (first ∷ parts) part room is all (suc k) within = widths_push parts part room is (λ n below. all (suc n) (omega arith)) k (omega arith)

  none_push : (parts : List (Vec T)) (part : Vec T) → part.items ≡ [] → all_in parts ≡ [] → all_in (parts ++ part ∷ []) ≡ []
  none_push [] part is none = rw is refl
  none_push (first ∷ parts) part is none =
      let parted = none_in first.items (lists_of parts) none in
      rw (parted.0, none_push parts part is parted.1) refl

  pub one_made : (room : ℕ) (parts : List (Vec T)) (count : ℕ) (part : Vec T) → AreAllOf room parts count → part.items ≡ [] →
      free_in part ≡ room → vec_capacity part ≡ room → AreAllOf room (parts ++ part ∷ []) (count + 1)
  one_made room parts count part made is free width = record {
    number = length_push parts part ∙ ap (λ (n : ℕ). n + 1) made.number;
    none = none_push parts part is made.none;
    rooms = frees_push parts part room free made.rooms;
    widths = widths_push parts part room width made.widths;
  }

  pub all_made : (room : ℕ) (parts : List (Vec T)) (count : ℕ) → AreAllOf room parts count → 0 < count → room_in parts ≡ room
  all_made room [] count made some = absurd (omega (arith, made.number))
  all_made room (first ∷ others) count made some =
      let parts = first ∷ others in
      let number = length-map parts free_in in
      let low = least_under (frees_of parts) 0 (omega arith) in
      let at = made.rooms 0 (omega arith) in
      let high = least_over room (frees_of parts) (omega (arith, number)) (λ k within. let is = made.rooms k (omega (arith, number)) in omega (arith, is)) in
      omega (arith, low, at, high)

  -- all that have one value have it as the least
  pub all_wide : (room : ℕ) (parts : List (Vec T)) (count : ℕ) → AreAllOf room parts count → 0 < count → wide_in parts ≡ room
  all_wide room [] count made some = absurd (omega (arith, made.number))
  all_wide room (first ∷ others) count made some =
      let parts = first ∷ others in
      let widths = map (λ (p : Vec T). vec_capacity p) parts in
      let number = length-map parts (λ (p : Vec T). vec_capacity p) in
      let low = least_under widths 0 (omega arith) in
      let at = made.widths 0 (omega arith) in
      let high = least_over room widths (omega (arith, number)) (λ k within. let is = made.widths k (omega (arith, number)) in omega (arith, is)) in
      omega (arith, low, at, high)

  pub each_wide : (room : ℕ) (parts : List (Vec T)) (count : ℕ) → AreAllOf room parts count → (k : ℕ) (d : Vec T) → k < length parts →
      vec_capacity (get_or parts k d) ≡ room
  each_wide room parts count made k d within = sym (get_or-map (λ (p : Vec T). vec_capacity p) parts k d 0 within) ∙ made.widths k within

  -- none is narrower than before, nor than the room
  pub wide_taken : (old new room : List (Vec T)) → length old ≡ length new → length room ≡ length new → ((k : ℕ) → room_at old k ≤ room_at new k) →
      ((k : ℕ) → k < length room → room_at room k ≤ room_at new k) → max (wide_in old) (wide_in room) ≤ wide_in new
  wide_taken old new room number as_many kept wider =
      let capacity : Vec T → ℕ = λ p. vec_capacity p in
      let one = least_grows (map capacity old) (map capacity new) (length-map old capacity ∙ number ∙ sym (length-map new capacity)) (λ k within. kept k) in
      let other = least_grows (map capacity room) (map capacity new) (length-map room capacity ∙ as_many ∙ sym (length-map new capacity))
      (λ k within. wider k (omega (arith, length-map new capacity, as_many, within))) in
      omega (arith, one, other)

  -- ---- one part in the place of another

  frees_set : (parts : List (Vec T)) (place : ℕ) (part : Vec T) → frees_of (set parts place part) ≡ set (frees_of parts) place (free_in part)
  frees_set parts place part = map-set free_in parts place part

  module _ (parts : List (Vec T)) (place : ℕ) (part : Vec T) (within : place < length parts) (read : part ≡ get_or parts place part) where
    free_read : get_or (frees_of parts) place 0 ≡ free_in part
    free_read = get_or-map free_in parts place part 0 within ∙ sym (ap free_in read)

    -- there is as much room in it as in all
    pub room_there_is : room_in parts ≤ free_in part
    room_there_is = let least = least_under (frees_of parts) place (omega (arith, length-map parts free_in, within)) in omega (arith, least, free_read)

    pub same_room : (after : Vec T) → free_in after ≡ free_in part → room_in (set parts place after) ≡ room_in parts
    same_room after same =
        ap least_in (frees_set parts place after
        ∙ ap (λ (n : ℕ). set (frees_of parts) place n) (same ∙ sym free_read)
        ∙ set-get_or (frees_of parts) place 0)

    pub less_by_one : (after : Vec T) → free_in part ≤ free_in after + 1 → room_in parts ≤ room_in (set parts place after) + 1
    less_by_one after less =
        let number = length-map parts free_in in
        let number_after = length-map (set parts place after) free_in in
        let as_many = length-set parts place after in
        let low = least_over (room_in parts - 1) (frees_of (set parts place after)) (omega (arith, number_after, as_many, within)) (λ k below.
        let least = least_under (frees_of parts) k (omega (arith, number, number_after, as_many, below)) in
        let at : get_or (frees_of (set parts place after)) k 0 ≡ get_or (set (frees_of parts) place (free_in after)) k 0 =
        ap (λ (ns : List ℕ). get_or ns k 0) (frees_set parts place after) in
        ⊎_elim
        (λ same.
        let there = get_or-set_same (frees_of parts) place (free_in after) 0 (omega (arith, number, within)) in
        let here : get_or (frees_of (set parts place after)) k 0 ≡ free_in after =
        at ∙ ap (λ (n : ℕ). get_or (set (frees_of parts) place (free_in after)) n 0) same ∙ there in
        let all = room_there_is in
        omega (arith, here, all, less))
        (λ other. let there = get_or-set_other (frees_of parts) place k (free_in after) 0 other in omega (arith, at, there, least))
        (cases_eq k place)) in
        omega (arith, low)
