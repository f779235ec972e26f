-- What a visit leaves of entries.
use Rattle.std.proofs.Common.{◌≡◌, ℕ, zero, suc, ◌<◌, ◌≤◌, ◌+◌, List, [], ◌∷◌, length, get_or, set, map, refl, sym, ap, ◌∙◌, arith}
use Rattle.std.specs.Option.{option_map}
use Rattle.std.specs.Ordering.{nat_cmp}
use Rattle.std.specs.Map.{keys_of}
use Rattle.std.specs.declared.cmp.Ordering.{Ordering}
use Rattle.std.specs.declared.cmp.Ordering.TheVariants.{Less, Equal, Greater}
use Rattle.std.specs.Global.{Box, Vec}
use Rattle.std.specs.Box.{box_value}
use Rattle.std.proofs.lemmas.List.{get_or-map, length-map, length-set, map-set, set-get_or}
use Rattle.shelf.specs.Parted.{free_in, frees_of}
use Rattle.shelf.specs.Places.{entries_of, entry_of, lists_in}
use Rattle.shelf.specs.Shelved.{value_at}

module _ {A : Type 0} (f : A → A) where
  -- the first so many are changed
  abbrev pub changed_to : ℕ → List A → List A
  changed_to zero xs = xs
  changed_to (suc n) [] = []
  changed_to (suc n) (x ∷ xs) = f x ∷ changed_to n xs

  pub next_is : (n : ℕ) (xs : List A) (d : A) → get_or (changed_to n xs) n d ≡ get_or xs n d
  next_is zero xs d = refl
  next_is (suc n) [] d = refl
  next_is (suc n) (x ∷ xs) d = next_is n xs d

  pub one_more : (n : ℕ) (xs : List A) (d : A) → n < length xs → set (changed_to n xs) n (f (get_or xs n d)) ≡ changed_to (suc n) xs
  one_more n [] d within = absurd (omega arith)
  one_more zero (x ∷ xs) d within = refl
  one_more (suc n) (x ∷ xs) d within = ap (λ rest. f x ∷ rest) (one_more n xs d (omega arith))

  pub changed_length : (n : ℕ) (xs : List A) → length (changed_to n xs) ≡ length xs
  changed_length zero xs = refl
  changed_length (suc n) [] = refl
  changed_length (suc n) (x ∷ xs) = ap suc (changed_length n xs)

  pub all_changed : (n : ℕ) (xs : List A) → length xs ≤ n → changed_to n xs ≡ map f xs
  all_changed zero [] most = refl
  all_changed zero (x ∷ xs) most = absurd (omega arith)
  all_changed (suc n) [] most = refl
  all_changed (suc n) (x ∷ xs) most = ap (λ rest. f x ∷ rest) (all_changed n xs (omega arith))

-- the value of a key is visited where it stands
module _ {V : Type 0} (f : V → V) where
  abbrev pub visited : ℕ × V → ℕ × V
  visited entry = (entry.0, f entry.1)

  value_by : (key : ℕ) (e : ℕ × V) (es : List (ℕ × V)) → value_at (map visited es) key ≡ option_map f (value_at es key) →
      (order : Ordering) → nat_cmp key e.0 ≡ order →
      value_at (map visited (e ∷ es)) key ≡ option_map f (value_at (e ∷ es) key)
  value_by key e es rest Less is = rw (is) rest
  value_by key e es rest Equal is = rw (is) refl
  value_by key e es rest Greater is = rw (is) rest

  pub value_visited : (es : List (ℕ × V)) (key : ℕ) → value_at (map visited es) key ≡ option_map f (value_at es key)
  value_visited [] key = refl
  value_visited (e ∷ es) key = value_by key e es (value_visited es key) (nat_cmp key e.0) refl

  -- each stands under the same key
  pub same_keys : (es : List (ℕ × V)) → keys_of (map visited es) ≡ keys_of es
  same_keys [] = refl
  same_keys (e ∷ es) = ap (λ keys. e.0 ∷ keys) (same_keys es)

  -- one more entry is visited, its value in its box
  pub visited_one : (es : List (ℕ × Box V)) (old : List (ℕ × V)) (place : ℕ) (r : ℕ × Box V) (after : Box V) → place < length es →
      entries_of es ≡ changed_to visited place old → box_value after ≡ f (box_value (get_or es place r).1) →
      entries_of (set es place ((get_or es place r).0, after)) ≡ changed_to visited (place + 1) old
  visited_one es old place r after within before changes =
      let d : ℕ × V = entry_of r in
      let length_is : length (entries_of es) ≡ length es = length-map es entry_of in
      let same_length : length (entries_of es) ≡ length old = ap length before ∙ changed_length visited place old in
      let read : entry_of (get_or es place r) ≡ get_or old place d =
      sym (get_or-map entry_of es place r d within) ∙ ap (λ (l : List (ℕ × V)). get_or l place d) before ∙ next_is visited place old d in
      let new : entry_of ((get_or es place r).0, after) ≡ visited (get_or old place d) =
      (λ i. ((get_or es place r).0, changes i)) ∙ ap visited read in
      map-set entry_of es place ((get_or es place r).0, after)
      ∙ (λ i. set (before i) place (new i))
      ∙ one_more visited place old d (omega arith)
      ∙ (let more : suc place ≡ place + 1 = omega arith in ap (λ (n : ℕ). changed_to visited n old) more)

  -- so many parts are visited
  pub record AreVisited (old new : List (Vec (ℕ × Box V))) (place : ℕ) : Type 0 where
    pub number : length new ≡ length old
    pub frees : frees_of new ≡ frees_of old
    pub lists : lists_in new ≡ changed_to (map visited) place (lists_in old)

  pub visited_part : (old new : List (Vec (ℕ × Box V))) (place : ℕ) (part after : Vec (ℕ × Box V)) → AreVisited old new place → place < length new →
      part ≡ get_or new place part → free_in after ≡ free_in part → entries_of after.items ≡ map visited (entries_of part.items) →
      AreVisited old (set new place after) (place + 1)
  visited_part old new place part after visits within read same leaves =
      let number : length (lists_in old) ≡ length old = length-map old (λ (p : Vec (ℕ × Box V)). entries_of p.items) in
      let free_read : get_or (frees_of new) place 0 ≡ free_in part = get_or-map free_in new place part 0 within ∙ sym (ap free_in read) in
      let list_read : get_or (lists_in old) place [] ≡ entries_of part.items =
      sym (next_is (map visited) place (lists_in old) [])
      ∙ ap (λ (l : List (List (ℕ × V))). get_or l place []) (sym visits.lists)
      ∙ get_or-map (λ (p : Vec (ℕ × Box V)). entries_of p.items) new place part [] within
      ∙ sym (ap (λ (p : Vec (ℕ × Box V)). entries_of p.items) read) in
      record {
        number = length-set new place after ∙ visits.number;
        frees =
            map-set free_in new place after
            ∙ ap (λ (n : ℕ). set (frees_of new) place n) (same ∙ sym free_read)
            ∙ set-get_or (frees_of new) place 0
            ∙ visits.frees;
        lists =
            map-set (λ (p : Vec (ℕ × Box V)). entries_of p.items) new place after
            ∙ (λ i. set (visits.lists i) place ((leaves ∙ ap (map visited) (sym list_read)) i))
            ∙ one_more (map visited) place (lists_in old) [] (omega (arith, number, visits.number, within))
            ∙ (let more : suc place ≡ place + 1 = omega arith in ap (λ (n : ℕ). changed_to (map visited) n (lists_in old)) more);
      }

  pub all_visited : (old new : List (Vec (ℕ × Box V))) (place : ℕ) → AreVisited old new place → length old ≤ place →
      lists_in new ≡ map (map visited) (lists_in old)
  all_visited old new place visits most =
      let number : length (lists_in old) ≡ length old = length-map old (λ (p : Vec (ℕ × Box V)). entries_of p.items) in
      visits.lists ∙ all_changed (map visited) place (lists_in old) (omega (arith, number, most))
