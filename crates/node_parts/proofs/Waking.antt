-- Those that are awake, as messages are put, looked at and taken off the list.
use Rattle.std.proofs.Common.{◌≡◌, ◌⊎◌, ℕ, suc, ◌<◌, ◌≤◌, Bool, true, false, cond, List, [], ◌∷◌, length, map, Option, Some, None}
use Rattle.std.proofs.Common.{refl, sym, ap, subst, ◌∙◌, inl, inr, arith}
use Rattle.std.specs.Prelude.{◌==◌, ◌||◌, filter, is_some, if◌then◌else◌}
use Rattle.std.specs.BTreeSet.{insert_key}
use Rattle.std.specs.Option.{is_none}
use Rattle.std.specs.Ordering.{nat_cmp}
use Rattle.std.proofs.lemmas.Bool.{cases_Bool, eq-eqb, or_right, true≢false}
use Rattle.std.proofs.lemmas.Bool.Decides.{Decides-eqb, nat_tests}
use Rattle.mc_model.specs.synod.Lists.{In}
use Rattle.node_model.proofs.Filters.{filter_passes}
use Rattle.node_parts.specs.declared.listing.Listing.{Listing}
use Rattle.node_parts.specs.declared.message.Message.{Message as Filed}
use Rattle.node_parts.specs.Living.{is_kept_listed, is_live_in}
use Rattle.node_parts.specs.Rising.{AreRising}
use Rattle.node_parts.specs.Sleeping.{IsDueIn, ids_of, is_past}
use Rattle.node_parts.specs.Waking.{AreAwake, all_looked_at, awake_in, is_awake, looked_at, sooner, soonest_at, soonest_in, until_at}
use Rattle.node_parts.proofs.IdLists.{no_more, rise_still, stays_in, was_in}
use Rattle.node_parts.proofs.Listings.{AreWoken, id_in, mapped_from, mapped_ids, rise_listed, stays_listed, was_listed, with_id}
use Rattle.node_parts.proofs.Rising.{each, in_put, put_in, rise_put}

-- ---- what stays of a list

shorter : {A : Type 0} (test : A → Bool) (xs : List A) → length (filter test xs) ≤ length xs
shorter test [] = omega arith
shorter test (y ∷ ys) = by_test (test y) (shorter test ys)
  where
    by_test : (is : Bool) → length (filter test ys) ≤ length ys → length (cond is (y ∷ filter test ys) (filter test ys)) ≤ suc (length ys)
    by_test true rest = omega (arith, rest)
    by_test false rest = omega (arith, rest)

pub all_pass : {A : Type 0} (test : A → Bool) (xs : List A) → length xs ≤ length (filter test xs) → (x : A) → In x xs → test x ≡ true
all_pass test [] most x none = absurd none
all_pass test (y ∷ ys) most x among = by_test (test y) refl most among (all_pass test ys)
  where
    by_test : (is : Bool) → test y ≡ is → suc (length ys) ≤ length (cond is (y ∷ filter test ys) (filter test ys)) → (x ≡ y) ⊎ In x ys →
        (length ys ≤ length (filter test ys) → (z : _) → In z ys → test z ≡ true) → test x ≡ true
    by_test true at most (inl same) rest = ap test same ∙ at
    by_test true at most (inr later) rest = rest (omega (arith, most)) x later
    by_test false at most among rest = absurd (let fewer = shorter test ys in omega (arith, most, fewer))

pub all_stay : {A : Type 0} (test : A → Bool) (xs : List A) → ((x : A) → In x xs → test x ≡ true) → filter test xs ≡ xs
all_stay test [] all = refl
all_stay test (y ∷ ys) all =
    let here : test y ≡ true = all y (inl refl) in
    rw here (ap (λ (zs : List _). y ∷ zs) (all_stay test ys (λ x among. all x (inr among))))

-- ---- none but those that are awake is due

pub asleep_late : (until clock moment : ℕ) → clock < until → until ≤ moment → is_past clock (Some moment) ≡ false
asleep_late until clock moment before late = let more : clock < moment = omega (arith, before, late) in grind (arith, nat_tests)

pub due_awake : (until : ℕ) (live : List Listing) (ids : List ℕ) → AreAwake until live ids → (clock : ℕ) → clock < until → (id : ℕ) →
    IsDueIn clock live id → In id ids
due_awake until live ids are clock before id is = by_until is.listing.until refl
  where
    by_until : (moment : Option ℕ) → is.listing.until ≡ moment → In id ids
    by_until None awake = subst (λ (n : ℕ). In n ids) is.named (are.each is.listing is.among awake)
    by_until (Some moment) sleeps =
        let late = are.others is.listing moment is.among sleeps in
        absurd (true≢false (sym is.due ∙ ap (is_past clock) sleeps ∙ asleep_late until clock moment before late))

-- ---- a message is put

module _ (until : ℕ) (live : List Listing) (ids : List ℕ) (are : AreAwake until live ids) (id : ℕ) where
  still_listed : (other : ℕ) → In other (insert_key nat_cmp ids id) → In other (insert_key nat_cmp (ids_of live) id)
  still_listed other among = put_in other id (ids_of live) (elim (in_put other id ids among) [ inl same ↦ inl same | inr there ↦ inr (are.listed other there) ])

  pub fewer_awake : AreRising (ids_of live) → length (insert_key nat_cmp ids id) ≤ length (insert_key nat_cmp (ids_of live) id)
  fewer_awake rise =
      no_more (insert_key nat_cmp ids id) (insert_key nat_cmp (ids_of live) id) (rise_put id ids are.rising) (rise_put id (ids_of live) rise) still_listed

  pub awake_put : (new : List Listing) → AreWoken id live new → ids_of new ≡ insert_key nat_cmp (ids_of live) id →
      AreAwake until new (insert_key nat_cmp ids id)
  awake_put new woken put = record {
    rising = rise_put id ids are.rising;
    listed = λ other among. subst (In other) (sym put) (still_listed other among);
    each = λ l among awake. put_in l.id id ids (elim (woken l among) [ inl is ↦ inl is.0 | inr was ↦ inr (are.each l was.0 awake) ]);
    others = λ l moment among sleeps. elim (woken l among) [
      | inl is ↦ let two : None ≡ Some moment = sym is.1 ∙ sleeps in absurd (cc)
      | inr was ↦ are.others l moment was.0 sleeps
    ];
  }

-- ---- those that are decided are taken off

module _ (entries : List (ℕ × Filed)) (until : ℕ) (live : List Listing) (ids : List ℕ) (are : AreAwake until live ids) where
  pub awake_left : AreAwake until (filter (is_kept_listed entries) live) (filter (is_live_in entries) ids)
  awake_left = record {
    rising = rise_still (is_live_in entries) ids are.rising;
    listed = λ id among.
        let there = with_id id live (are.listed id (was_in (is_live_in entries) ids id among)) in
        let lives : is_live_in entries there.0.id ≡ true = ap (is_live_in entries) there.2 ∙ filter_passes (is_live_in entries) ids id among in
        subst (λ (n : ℕ). In n (ids_of (filter (is_kept_listed entries) live))) there.2
        (id_in there.0 (filter (is_kept_listed entries) live)
        (stays_listed (is_kept_listed entries) live there.0 there.1 (or_right (is_some there.0.until) (is_live_in entries there.0.id) lives)));
    each = λ l among awake.
        let kept : is_kept_listed entries l ≡ true = filter_passes (is_kept_listed entries) live l among in
        let lives : is_live_in entries l.id ≡ true = sym (ap (λ (u : Option ℕ). is_some u || is_live_in entries l.id) awake) ∙ kept in
        stays_in (is_live_in entries) ids l.id (are.each l (was_listed (is_kept_listed entries) live l among) awake) lives;
    others = λ l moment among sleeps. are.others l moment (was_listed (is_kept_listed entries) live l among) sleeps;
  }

-- none is, if all that are awake are not decided
pub none_left_out : (entries : List (ℕ × Filed)) (live : List Listing) (ids : List ℕ) → ((l : Listing) → In l live → l.until ≡ None → In l.id ids) →
    length ids ≤ length (filter (is_live_in entries) ids) → filter (is_kept_listed entries) live ≡ live
none_left_out entries live ids are most =
    all_stay (is_kept_listed entries) live (λ l among. by_until l among l.until refl)
  where
    by_until : (l : Listing) → In l live → (moment : Option ℕ) → l.until ≡ moment → is_kept_listed entries l ≡ true
    by_until l among None awake =
        or_right (is_some l.until) (is_live_in entries l.id) (all_pass (is_live_in entries) ids most l.id (are l among awake))
    by_until l among (Some moment) sleeps = ap (λ (u : Option ℕ). is_some u || is_live_in entries l.id) sleeps

-- ---- those of some ids are looked at

pub ids_looked_at : (look : Listing → Listing) → ((l : Listing) → (look l).id ≡ l.id) → (id : ℕ) (live : List Listing) →
    ids_of (looked_at look id live) ≡ ids_of live
ids_looked_at look keeps id live = mapped_ids (λ l. if l.id == id then look l else l) (λ l. by_test l (l.id == id)) live
  where
    by_test : (l : Listing) (is : Bool) → (if is then look l else l).id ≡ l.id
    by_test l true = keeps l
    by_test l false = refl

module _ (look : Listing → Listing) (again : (l : Listing) → look (look l) ≡ look l) where
  looked_once : (id : ℕ) (live : List Listing) → map look (looked_at look id live) ≡ map look live
  looked_once id [] = refl
  looked_once id (l ∷ ls) = λ i. by_test (l.id == id) i ∷ looked_once id ls i
    where
      by_test : (is : Bool) → look (if is then look l else l) ≡ look l
      by_test true = again l
      by_test false = refl

  -- those that are not among the ids are as they would be
  pub all_looked : (ids : List ℕ) (live : List Listing) → ((l : Listing) → (look l).id ≡ l.id) →
      ((l : Listing) → In l live → (look l ≡ l) ⊎ In l.id ids) → all_looked_at look ids live ≡ map look live
  all_looked [] live keeps others = none_looks live (λ l among. elim (others l among) [ inl same ↦ same | inr none ↦ absurd none ])
    where
      none_looks : (ls : List Listing) → ((l : Listing) → In l ls → look l ≡ l) → ls ≡ map look ls
      none_looks [] all = refl
      none_looks (l ∷ ls) all = λ i. sym (all l (inl refl)) i ∷ none_looks ls (λ x among. all x (inr among)) i
  all_looked (id ∷ ids) live keeps others =
      all_looked ids (looked_at look id live) keeps (λ l among. from_there l (mapped_from (λ x. if x.id == id then look x else x) live l among))
      ∙ looked_once id live
    where
      by_test : (x : Listing) → In x live → (is : Bool) → (x.id == id) ≡ is →
          (look (if is then look x else x) ≡ (if is then look x else x)) ⊎ In (if is then look x else x).id ids
      by_test x among true is = inl (again x)
      by_test x among false is = elim (others x among) [
        | inl same ↦ inl same
        | inr (inl same) ↦ absurd (true≢false (sym (eq-eqb x.id id same) ∙ is))
        | inr (inr later) ↦ inr later
      ]

      from_there : (l : Listing) → (x : Listing) × (In x live) × ((if x.id == id then look x else x) ≡ l) → (look l ≡ l) ⊎ In l.id ids
      from_there l there = subst (λ (it : Listing). (look it ≡ it) ⊎ In it.id ids) there.2 (by_test there.0 there.1 (there.0.id == id) refl)

-- ---- the soonest moment

sooner_least : (until : ℕ) (other : Option ℕ) → sooner until other ≤ until
sooner_least until None = omega arith
sooner_least until (Some moment) = omega arith

sooner_than : (until : ℕ) (other : Option ℕ) (moment : ℕ) → other ≡ Some moment → sooner until other ≤ moment
sooner_than until None moment is = absurd (cc)
sooner_than until (Some other) moment is = let same : other ≡ moment = cc in omega (arith, same)

soonest_below : (live : List Listing) (until : ℕ) → soonest_in live until ≤ until
soonest_below [] until = omega arith
soonest_below (l ∷ ls) until = let one = sooner_least until l.until in let rest = soonest_below ls (sooner until l.until) in omega (arith, one, rest)

pub soonest_of_all : (live : List Listing) (until : ℕ) (l : Listing) (moment : ℕ) → In l live → l.until ≡ Some moment → soonest_in live until ≤ moment
soonest_of_all [] until l moment none sleeps = absurd none
soonest_of_all (x ∷ xs) until l moment (inl same) sleeps =
    let one = sooner_than until x.until moment (sym (ap (λ (it : Listing). it.until) same) ∙ sleeps) in
    let rest = soonest_below xs (sooner until x.until) in
    omega (arith, one, rest)
soonest_of_all (x ∷ xs) until l moment (inr later) sleeps = soonest_of_all xs (sooner until x.until) l moment later sleeps

pub at_soonest_below : (live : List Listing) (ids : List ℕ) (until : ℕ) → soonest_at live ids until ≤ until
at_soonest_below live [] until = omega arith
at_soonest_below live (id ∷ ids) until =
    let one = sooner_least until (until_at live id) in
    let rest = at_soonest_below live ids (sooner until (until_at live id)) in
    omega (arith, one, rest)

pub soonest_of_these : (live : List Listing) (ids : List ℕ) (until id moment : ℕ) → In id ids → until_at live id ≡ Some moment →
    soonest_at live ids until ≤ moment
soonest_of_these live [] until id moment none sleeps = absurd none
soonest_of_these live (n ∷ ns) until id moment (inl same) sleeps =
    let one = sooner_than until (until_at live n) moment (sym (ap (until_at live) same) ∙ sleeps) in
    let rest = at_soonest_below live ns (sooner until (until_at live n)) in
    omega (arith, one, rest)
soonest_of_these live (n ∷ ns) until id moment (inr later) sleeps = soonest_of_these live ns (sooner until (until_at live n)) id moment later sleeps

pub until_in : (live : List Listing) → AreRising (ids_of live) → (l : Listing) → In l live → until_at live l.id ≡ l.until
until_in [] rise l none = absurd none
until_in (x ∷ xs) rise l (inl same) =
    let ids : x.id ≡ l.id = sym (ap (λ (it : Listing). it.id) same) in
    let here : (x.id == l.id) ≡ true = eq-eqb x.id l.id ids in
    rw here (sym (ap (λ (it : Listing). it.until) same))
until_in (x ∷ xs) rise l (inr later) = elim (cases_Bool (x.id == l.id)) [
  | inl same ↦
      let above = each (λ (id : ℕ). x.id < id) (ids_of xs) rise.0 l.id (id_in l xs later) in
      let ids : x.id ≡ l.id = (Decides-eqb x.id l.id).0 same in
      absurd (omega (arith, above, ids))
  | inr differs ↦ rw differs (until_in xs rise.1 l later)
]

-- ---- all are looked at

pub awake_gathered : (live : List Listing) (last : ℕ) → AreRising (ids_of live) → AreAwake (soonest_in live last) live (awake_in live)
awake_gathered live last rise = record {
  rising = rise_listed is_awake live rise;
  listed = λ id among.
      let there = with_id id (filter is_awake live) among in
      subst (λ (n : ℕ). In n (ids_of live)) there.2 (id_in there.0 live (was_listed is_awake live there.0 there.1));
  each = λ l among awake. id_in l (filter is_awake live) (stays_listed is_awake live l among (ap is_none awake));
  others = λ l moment among sleeps. soonest_of_all live last l moment among sleeps;
}

-- ---- those that are awake are looked at

module _ (look : Listing → Listing) (keeps : (l : Listing) → (look l).id ≡ l.id) (until : ℕ) (live : List Listing) (ids : List ℕ)
    (rise : AreRising (ids_of live)) (are : AreAwake until live ids)
    (sleep : (l : Listing) (moment : ℕ) → until ≤ moment → l.until ≡ Some moment → look l ≡ l) where
  -- those that are asleep stay so
  pub asleep_stay : (l : Listing) → In l live → (look l ≡ l) ⊎ In l.id ids
  asleep_stay l among = by_until l.until refl
    where
      by_until : (moment : Option ℕ) → l.until ≡ moment → (look l ≡ l) ⊎ In l.id ids
      by_until None awake = inr (are.each l among awake)
      by_until (Some moment) sleeps = inl (sleep l moment (are.others l moment among sleeps) sleeps)

  abbrev New : List Listing
  New = map look live

  still : ids_of New ≡ ids_of live
  still = mapped_ids look keeps live

  rise_new : AreRising (ids_of New)
  rise_new = subst AreRising (sym still) rise

  abbrev Stays : ℕ → Bool
  Stays id = is_none (until_at New id)

  each_new : (l : Listing) → In l New → l.until ≡ None → In l.id (filter Stays ids)
  each_new l among awake =
      let from = mapped_from look live l among in
      let is : is_none (until_at New l.id) ≡ true = ap is_none (until_in New rise_new l among ∙ awake) in
      stays_in Stays ids l.id (by_until from.0 from.1 from.2 from.0.until refl) is
    where
      by_until : (x : Listing) → In x live → look x ≡ l → (moment : Option ℕ) → x.until ≡ moment → In l.id ids
      by_until x there looks None was = subst (λ (n : ℕ). In n ids) (sym (keeps x) ∙ ap (λ (it : Listing). it.id) looks) (are.each x there was)
      by_until x there looks (Some moment) was =
          let same = sleep x moment (are.others x moment there was) was in
          let two : Some moment ≡ None = sym was ∙ ap (λ (it : Listing). it.until) (sym same ∙ looks) ∙ awake in
          absurd (cc)

  others_new : (l : Listing) (moment : ℕ) → In l New → l.until ≡ Some moment → soonest_at New ids until ≤ moment
  others_new l moment among sleeps = let from = mapped_from look live l among in by_until from.0 from.1 from.2 from.0.until refl
    where
      by_until : (x : Listing) → In x live → look x ≡ l → (was : Option ℕ) → x.until ≡ was → soonest_at New ids until ≤ moment
      by_until x there looks None was =
          let one : In l.id ids = subst (λ (n : ℕ). In n ids) (sym (keeps x) ∙ ap (λ (it : Listing). it.id) looks) (are.each x there was) in
          soonest_of_these New ids until l.id moment one (until_in New rise_new l among ∙ sleeps)
      by_until x there looks (Some before) was =
          let late = are.others x before there was in
          let same = sleep x before late was in
          let two : Some before ≡ Some moment = sym was ∙ ap (λ (it : Listing). it.until) (sym same ∙ looks) ∙ sleeps in
          let one : before ≡ moment = cc in
          let below = at_soonest_below New ids until in
          omega (arith, below, late, one)

  pub awake_looked_at : AreAwake (soonest_at New ids until) New (filter Stays ids)
  awake_looked_at = record {
    rising = rise_still Stays ids are.rising;
    listed = λ id among. subst (In id) (sym still) (are.listed id (was_in Stays ids id among));
    each = each_new;
    others = others_new;
  }
