-- One of those that are listed is looked up, and looked at.
use Rattle.std.proofs.Common.{◌≡◌, ℕ, zero, suc, ◌<◌, ◌≤◌, Bool, true, false, List, [], ◌∷◌, length, get_or, map, set, Option, Some, None, Err}
use Rattle.std.proofs.Common.{refl, sym, ap, subst, ◌∙◌, inl, inr, arith}
use Rattle.std.specs.Prelude.{◌==◌, filter, slice_get, if◌then◌else◌}
use Rattle.std.specs.List.{insert}
use Rattle.std.specs.Option.{is_none}
use Rattle.std.proofs.lemmas.Bool.{cases_Bool, eq-eqb}
use Rattle.std.proofs.lemmas.Bool.Decides.{Decides-eqb}
use Rattle.mc_model.specs.synod.Lists.{In}
use Rattle.mc_model.specs.node.Reach.{Reach}
use Rattle.fate_chain.specs.declared.decree.Author.{Author}
use Rattle.shelf.specs.Shelved.{value_at}
use Rattle.node_parts.specs.declared.listing.Listing.{Listing}
use Rattle.node_parts.specs.declared.message.Message.{Message as Filed}
use Rattle.node_parts.specs.Rising.{AreRising, IsPlaceOf}
use Rattle.node_parts.specs.Sleeping.{dozed, ids_of, is_due, is_past, noted_of}
use Rattle.node_parts.specs.Waking.{AreAwake, all_looked_at, looked_at, soonest_at, until_at}
use Rattle.node_parts.proofs.Listings.{mapped_ids}
use Rattle.node_parts.proofs.Rising.{each, put_again}
use Rattle.node_parts.proofs.Waking.{all_looked, asleep_late, asleep_stay, awake_looked_at}

-- ---- where it stands

pub at_in : (ids : List ℕ) (place id : ℕ) → slice_get ids place ≡ Some id → In id ids
at_in [] place id at = absurd (cc)
at_in (x ∷ xs) zero id at = inl (let same : id ≡ x = cc in same)
at_in (x ∷ xs) (suc place) id at = inr (at_in xs place id at)

one_longer : (ids : List ℕ) (place id : ℕ) → place ≤ length ids → length (insert ids place id) ≡ suc (length ids)
one_longer [] zero id within = refl
one_longer [] (suc place) id within = absurd (omega (arith, within))
one_longer (x ∷ xs) zero id within = refl
one_longer (x ∷ xs) (suc place) id within = ap suc (one_longer xs place id (omega (arith, within)))

pub absent : (ids : List ℕ) (id place : ℕ) → AreRising ids → IsPlaceOf ids id (Err place) → In id ids → ⊥
absent ids id place rise at among =
    let longer = one_longer ids place id at.1.within in
    let same = ap length (sym at.0 ∙ put_again ids id rise among) in
    omega (arith, longer, same)

differs_from : (x : Listing) (xs : List Listing) (place id : ℕ) → AreRising (ids_of (x ∷ xs)) → slice_get (ids_of xs) place ≡ Some id → (x.id == id) ≡ false
differs_from x xs place id rise at =
    let above = each (λ (n : ℕ). x.id < n) (ids_of xs) rise.0 id (at_in (ids_of xs) place id at) in
    elim (cases_Bool (x.id == id)) [
      | inl same ↦ let ids : x.id ≡ id = (Decides-eqb x.id id).0 same in absurd (omega (arith, above, ids))
      | inr differs ↦ differs
    ]

absent_from : (x : Listing) (xs : List Listing) → AreRising (ids_of (x ∷ xs)) → In x.id (ids_of xs) → ⊥
absent_from x xs rise among = let above = each (λ (n : ℕ). x.id < n) (ids_of xs) rise.0 x.id among in omega (arith, above)

-- ---- until when it sleeps

pub until_none : (live : List Listing) (id : ℕ) → (In id (ids_of live) → ⊥) → until_at live id ≡ None
until_none [] id none = refl
until_none (x ∷ xs) id none = elim (cases_Bool (x.id == id)) [
  | inl same ↦ absurd (none (inl (sym ((Decides-eqb x.id id).0 same))))
  | inr differs ↦ rw differs (until_none xs id (λ later. none (inr later)))
]

pub until_there : (live : List Listing) (place id : ℕ) (d : Listing) → AreRising (ids_of live) → slice_get (ids_of live) place ≡ Some id →
    (get_or live place d).until ≡ until_at live id
until_there [] place id d rise at = absurd (cc)
until_there (x ∷ xs) zero id d rise at =
    let same : x.id ≡ id = cc in
    let here : (x.id == id) ≡ true = eq-eqb x.id id same in
    rw here refl
until_there (x ∷ xs) (suc place) id d rise at = let differs = differs_from x xs place id rise at in rw differs (until_there xs place id d rise.1 at)

-- ---- it is looked at

module _ (look : Listing → Listing) where
  pub none_looked_at : (id : ℕ) (live : List Listing) → (In id (ids_of live) → ⊥) → live ≡ looked_at look id live
  none_looked_at id [] none = refl
  none_looked_at id (x ∷ xs) none = elim (cases_Bool (x.id == id)) [
    | inl same ↦ absurd (none (inl (sym ((Decides-eqb x.id id).0 same))))
    | inr differs ↦ rw differs (ap (λ (ls : List Listing). x ∷ ls) (none_looked_at id xs (λ later. none (inr later))))
  ]

  pub one_looked_at : (live : List Listing) (place id : ℕ) (d : Listing) → AreRising (ids_of live) → slice_get (ids_of live) place ≡ Some id →
      set live place (look (get_or live place d)) ≡ looked_at look id live
  one_looked_at [] place id d rise at = refl
  one_looked_at (x ∷ xs) zero id d rise at =
      let same : x.id ≡ id = cc in
      let here : (x.id == id) ≡ true = eq-eqb x.id id same in
      let others = none_looked_at id xs (λ among. absent_from x xs rise (subst (λ (n : ℕ). In n (ids_of xs)) (sym same) among)) in
      rw here (ap (λ (ls : List Listing). look x ∷ ls) others)
  one_looked_at (x ∷ xs) (suc place) id d rise at =
      let differs = differs_from x xs place id rise at in
      rw differs (ap (λ (ls : List Listing). x ∷ ls) (one_looked_at xs place id d rise.1 at))

-- ---- what is noted of it

either_way : (test : Bool) (moment : Option ℕ) → (if test then moment else moment) ≡ moment
either_way true moment = refl
either_way false moment = refl

module _ (entries : List (ℕ × Filed)) (me : Author) (reach : Reach) (clock : ℕ) (l : Listing) where
  abbrev Then : Option ℕ
  Then = noted_of me reach l.id (value_at entries l.id)

  abbrev With : Option ℕ → Listing
  With moment = record l { until = moment }

  pub dozed_again : dozed entries me reach (Some clock) (dozed entries me reach (Some clock) l) ≡ dozed entries me reach (Some clock) l
  dozed_again = by_test (is_due clock l) refl
    where
      by_test : (is : Bool) → is_due clock l ≡ is →
          With (if is_past clock (if is then Then else l.until) then Then else (if is then Then else l.until)) ≡ With (if is then Then else l.until)
      by_test true at = ap With (either_way (is_past clock Then) Then)
      by_test false at = ap (λ (test : Bool). With (if test then Then else l.until)) at

  pub dozes_on : (until moment : ℕ) → clock < until → until ≤ moment → l.until ≡ Some moment → dozed entries me reach (Some clock) l ≡ l
  dozes_on until moment before late sleeps =
      let at : is_due clock l ≡ false = ap (is_past clock) sleeps ∙ asleep_late until clock moment before late in
      ap (λ (test : Bool). With (if test then Then else l.until)) at

-- ---- those that are awake are looked at, before another one wakes

module _ (entries : List (ℕ × Filed)) (me : Author) (reach : Reach) (clock until : ℕ) (live : List Listing) (ids : List ℕ)
    (rise : AreRising (ids_of live)) (are : AreAwake until live ids) (before : clock < until) where
  abbrev Look : Listing → Listing
  Look = dozed entries me reach (Some clock)

  sleep : (l : Listing) (moment : ℕ) → until ≤ moment → l.until ≡ Some moment → Look l ≡ l
  sleep l moment late sleeps = dozes_on entries me reach clock l until moment before late sleeps

  -- all are as if each was looked at
  pub all_dozed : all_looked_at Look ids live ≡ map Look live
  all_dozed = all_looked Look (dozed_again entries me reach clock) ids live (λ l. refl) (asleep_stay Look (λ l. refl) until live ids rise are sleep)

  pub rise_dozed : AreRising (ids_of (map Look live))
  rise_dozed = subst AreRising (sym (mapped_ids Look (λ l. refl) live)) rise

  pub awake_dozed : AreAwake (soonest_at (map Look live) ids until) (map Look live) (filter (λ id. is_none (until_at (map Look live) id)) ids)
  awake_dozed = awake_looked_at Look (λ l. refl) until live ids rise are sleep
