-- Each part of a list is changed alike.
use Rattle.std.proofs.Common.{◌≡◌, ℕ, suc, ◌<◌, ◌≤◌, ◌+◌, List, [], ◌∷◌, ◌++◌, length, get_or, set, map, sym, ap, ◌∙◌, arith}
use Rattle.std.specs.List.{AllByRecursion}
use Rattle.std.specs.Global.{Vec}
use Rattle.std.specs.Vec.{vec_capacity}
use Rattle.std.proofs.lemmas.List.{get_or-map, length-map, length-set, map-set, set-get_or}
use Rattle.shelf.specs.Parted.{LieFrom, joined, lists_of, part_of}
use Rattle.shelf.proofs.Visited.{all_changed, changed_to, next_is, one_more}

module _ {T : Type 0} (change : List T → List T) where
  -- so many parts are changed
  pub record AreChanged (old new : List (Vec T)) (place : ℕ) : Type 0 where
    pub number : length new ≡ length old
    pub widths : map (λ part. vec_capacity part) new ≡ map (λ part. vec_capacity part) old
    pub lists : lists_of new ≡ changed_to change place (lists_of old)

  pub changed_part : (old new : List (Vec T)) (place : ℕ) (part after : Vec T) → AreChanged old new place → place < length new →
      part ≡ get_or new place part → vec_capacity after ≡ vec_capacity part → after.items ≡ change part.items → AreChanged old (set new place after) (place + 1)
  changed_part old new place part after changes within read same leaves =
      let number = length-map old (λ (p : Vec T). p.items) in
      let width_read : get_or (map (λ p. vec_capacity p) new) place 0 ≡ vec_capacity part =
      get_or-map (λ (p : Vec T). vec_capacity p) new place part 0 within ∙ sym (ap (λ (p : Vec T). vec_capacity p) read) in
      let list_read : get_or (lists_of old) place [] ≡ part.items =
      sym (next_is change place (lists_of old) [])
      ∙ ap (λ (l : List (List T)). get_or l place []) (sym changes.lists)
      ∙ get_or-map (λ (p : Vec T). p.items) new place part [] within
      ∙ sym (ap (λ (p : Vec T). p.items) read) in
      record {
        number = length-set new place after ∙ changes.number;
        widths =
            map-set (λ (p : Vec T). vec_capacity p) new place after
            ∙ ap (λ (n : ℕ). set (map (λ p. vec_capacity p) new) place n) (same ∙ sym width_read)
            ∙ set-get_or (map (λ p. vec_capacity p) new) place 0
            ∙ changes.widths;
        lists =
            map-set (λ (p : Vec T). p.items) new place after
            ∙ (λ i. set (changes.lists i) place ((leaves ∙ ap change (sym list_read)) i))
            ∙ one_more change place (lists_of old) [] (omega (arith, number, changes.number, within))
            ∙ (let more : suc place ≡ place + 1 = omega arith in ap (λ (n : ℕ). changed_to change n (lists_of old)) more);
      }

  pub parts_changed : (old new : List (Vec T)) (place : ℕ) → AreChanged old new place → length old ≤ place → lists_of new ≡ map change (lists_of old)
  parts_changed old new place changes most =
      let number = length-map old (λ (p : Vec T). p.items) in
      changes.lists ∙ all_changed change place (lists_of old) (omega (arith, number, most))

  -- what is changed part by part is changed as one
  pub changed_as_one : change [] ≡ [] → ((xs ys : List T) → change (xs ++ ys) ≡ change xs ++ change ys) → (lists : List (List T)) →
      joined (map change lists) ≡ change (joined lists)
  changed_as_one none both [] = sym none
  changed_as_one none both (list ∷ lists) = ap (λ rest. change list ++ rest) (changed_as_one none both lists) ∙ sym (both list (joined lists))

  pub changed_lie : (key : T → ℕ) → ((P : ℕ → Type 0) (xs : List T) → AllByRecursion (λ x. P (key x)) xs → AllByRecursion (λ x. P (key x)) (change xs)) →
      (place : ℕ) (lists : List (List T)) → LieFrom key place lists → LieFrom key place (map change lists)
  changed_lie key keeps place [] lie = tt
  changed_lie key keeps place (list ∷ lists) lie = (keeps (λ n. part_of n ≡ place) list lie.0, changed_lie key keeps (place + 1) lists lie.1)
