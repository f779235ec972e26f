-- A tick goes over the messages that are live and not asleep and those of which requests ask once, by ascending ids.
use Rattle.std.proofs.Common.{◌≡◌, ◌⊎◌, ℕ, suc, ◌<◌, ◌≤◌, Bool, true, false, cond, List, [], ◌∷◌, length, Option, Some, None, refl, sym}
use Rattle.std.proofs.Common.{ap, subst, ◌∙◌, inl, inr, arith}
use Rattle.std.specs.Prelude.{◌==◌, ◌≢◌, filter, nat_le, nat_lt, if◌then◌else◌}
use Rattle.std.specs.BTreeMap.{is_at}
use Rattle.std.specs.List.{AllByRecursion}
use Rattle.std.specs.List.Sorted.{IsStrictlySortedBy}
use Rattle.std.specs.Map.{keys_of}
use Rattle.std.specs.Ordering.{nat_cmp}
use Rattle.std.proofs.lemmas.Bool.{cases_Bool, true≢false}
use Rattle.std.proofs.lemmas.Bool.Decides.{Decides-eqb, nat_tests}
use Rattle.mc_model.specs.synod.Lists.{In}
use Rattle.mc_model.specs.node.Reach.{Reach}
use Rattle.node_model.specs.Kept.{Held}
use Rattle.node_model.specs.Requests.{id_of}
use Rattle.node_model.specs.Ticks.{ids_of, ids_with, ticked}
use Rattle.waiting_requests.specs.Numbers.{IsLeastFrom, ids_in}
use Rattle.waiting_requests.specs.Queues.{timely}
use Rattle.waiting_requests.specs.Waiting.{held_in}
use Rattle.shelf.specs.Shelved.{value_at}
use Rattle.node_parts.specs.declared.message.Message.{Message as Filed}
use Rattle.tick_rules.specs.declared.standpoint.Standpoint.{Standpoint}
use Rattle.node_parts.specs.Living.{IsNextBy, lower_of}
use Rattle.node_parts.specs.Rising.{AreRising}
use Rattle.node_parts.specs.Sleeping.{IsAsleep}
use Rattle.node_parts.proofs.Dropping.{at_itself}
use Rattle.node_parts.proofs.Rising.{each, in_put, put_in, rise_of, rise_put}
use Rattle.node_kept.specs.declared.kept.Kept.{Kept as Holding}
use Rattle.node_kept.specs.declared.walk.Walk.{Walk}
use Rattle.node_kept.specs.Keeping.{kept_of}
use Rattle.node_kept.specs.Walking.{IsWalk}
use Rattle.node_kept.proofs.TickTurns.{same_ids}

-- ---- with the ids of which requests ask

rise_with : (held : List Held) (xs : List ℕ) → AreRising xs → AreRising (ids_with held xs)
rise_with [] xs rise = rise
rise_with (h ∷ others) xs rise = rise_put (id_of h) (ids_with others xs) (rise_with others xs rise)

in_with : (z : ℕ) (held : List Held) (xs : List ℕ) → In z (ids_with held xs) → In z xs ⊎ In z (ids_in held)
in_with z [] xs among = inl among
in_with z (h ∷ others) xs among = elim (in_put z (id_of h) (ids_with others xs) among) [
  | inl same ↦ inr (inl same)
  | inr there ↦ elim (in_with z others xs there) [ inl kept ↦ inl kept | inr asked ↦ inr (inr asked) ]
]

with_in : (z : ℕ) (held : List Held) (xs : List ℕ) → In z xs ⊎ In z (ids_in held) → In z (ids_with held xs)
with_in z [] xs (inl kept) = kept
with_in z [] xs (inr none) = absurd none
with_in z (h ∷ others) xs (inl kept) = put_in z (id_of h) (ids_with others xs) (inr (with_in z others xs (inl kept)))
with_in z (h ∷ others) xs (inr (inl same)) = put_in z (id_of h) (ids_with others xs) (inl same)
with_in z (h ∷ others) xs (inr (inr later)) = put_in z (id_of h) (ids_with others xs) (inr (with_in z others xs (inr later)))

-- ---- those from a number on

pub all_stay : (from : ℕ) (xs : List ℕ) → AllByRecursion (λ (y : ℕ). from ≤ y) xs → filter (nat_le from) xs ≡ xs
all_stay from [] all = refl
all_stay from (x ∷ xs) all =
    let here : nat_le from x ≡ true = let lower = all.0 in grind (arith, nat_tests) in rw here (ap (λ (ys : List ℕ). x ∷ ys) (all_stay from xs all.1))

pub from_on : (low from : ℕ) (xs : List ℕ) → from ≤ suc low → AllByRecursion (λ (y : ℕ). low < y) xs → AllByRecursion (λ (y : ℕ). from ≤ y) xs
from_on low from [] below all = tt
from_on low from (x ∷ xs) below all = (let above = all.0 in omega (arith, above, below), from_on low from xs below all.1)

pub from_nothing : (xs : List ℕ) → filter (nat_le 0) xs ≡ xs
from_nothing xs = all_stay 0 xs (all_numbers xs)
  where
    all_numbers : (ys : List ℕ) → AllByRecursion (λ (y : ℕ). 0 ≤ y) ys
    all_numbers [] = tt
    all_numbers (y ∷ ys) = (omega arith, all_numbers ys)

-- the least of them comes first
least_first : (from id : ℕ) (xs : List ℕ) → AreRising xs → In id xs → from ≤ id → ((x : ℕ) → In x xs → from ≤ x → id ≤ x) →
    filter (nat_le from) xs ≡ id ∷ filter (nat_le (suc id)) xs
least_first from id [] rise none above least = absurd none
least_first from id (x ∷ xs) rise among above least =
    by_test (nat_le from x) refl (λ later. least_first from id xs rise.1 later above (λ y there. least y (inr there)))
  where
    by_test : (test : Bool) → nat_le from x ≡ test → (In id xs → filter (nat_le from) xs ≡ id ∷ filter (nat_le (suc id)) xs) →
        cond test (x ∷ filter (nat_le from) xs) (filter (nat_le from) xs) ≡ id ∷ filter (nat_le (suc id)) (x ∷ xs)
    by_test true from_here rest = elim among [
      | inl same ↦
          let gone : nat_le (suc id) x ≡ false = grind (arith, nat_tests) in
          rw gone (λ i. sym same i ∷ (all_stay from xs (from_on x from xs (omega (arith, above, same)) rise.0)
          ∙ sym (all_stay (suc id) xs (from_on x (suc id) xs (omega (arith, same)) rise.0))) i)
      | inr later ↦
          let lower : from ≤ x = grind (arith, nat_tests) in
          let below = each (λ (y : ℕ). x < y) xs rise.0 id later in
          let least_is = least x (inl refl) lower in
          absurd (omega (arith, below, least_is))
    ]
    by_test false before rest =
        let lower : x < from = grind (arith, nat_tests) in
        let gone : nat_le (suc id) x ≡ false = grind (arith, nat_tests) in
        elim among [
          | inl same ↦ absurd (omega (arith, same, lower, above))
          | inr later ↦ rw gone (rest later)
        ]

-- ---- what is kept

pub is_kept : (entries : List (ℕ × Filed)) (id : ℕ) → In id (keys_of entries) → (m : Filed) × (value_at entries id ≡ Some m)
is_kept [] id none = absurd none
is_kept (e ∷ es) id among = by_test (is_at (nat_cmp id) e.0) refl among (is_kept es id)
  where
    by_test : (test : Bool) → is_at (nat_cmp id) e.0 ≡ test → (id ≡ e.0) ⊎ In id (keys_of es) → (In id (keys_of es) → (m : Filed) × (value_at es id ≡ Some m)) →
        (m : Filed) × (cond test (Some e.1) (value_at es id) ≡ Some m)
    by_test true at there rest = (e.1, refl)
    by_test false at (inl same) rest = let here : is_at (nat_cmp id) e.0 ≡ true = rw same (at_itself e.0) in absurd (true≢false (sym here ∙ at))
    by_test false at (inr later) rest = rest later

-- what is so of all that are passed by
pub next_by : (P Q : ℕ → Filed → Type 0) (entries : List (ℕ × Filed)) (from : ℕ) (next : Option ℕ) → ((id : ℕ) (m : Filed) → P id m → Q id m) →
    IsNextBy P entries from next → IsNextBy Q entries from next
next_by P Q entries from None so is = λ id m found above. so id m (is id m found above)
next_by P Q entries from (Some next) so is = (is.0, (is.1.0, λ id m found above before. so id m (is.1.1 id m found above before)))

-- ---- a walk

module _ (k : Holding) (s : Standpoint) (reach : Reach) where
  abbrev clock : ℕ
  clock = s.clock

  abbrev Asked : List ℕ
  Asked = ids_in (timely clock (held_in k.queue))

  abbrev Is_asked : ℕ → Type 0
  Is_asked id = In id Asked

  abbrev All_ids : List ℕ
  All_ids = ids_of (ticked (kept_of k) clock)

  all_is : All_ids ≡ ids_with (timely clock (held_in k.queue)) (keys_of k.messages.entries)
  all_is = ap (ids_with (timely clock (held_in k.queue))) (same_ids k.messages.entries)

  in_all : (id : ℕ) → In id All_ids → In id (keys_of k.messages.entries) ⊎ In id Asked
  in_all id among = in_with id (timely clock (held_in k.queue)) (keys_of k.messages.entries) (subst (λ (ids : List ℕ). In id ids) all_is among)

  all_in : (id : ℕ) → In id (keys_of k.messages.entries) ⊎ In id Asked → In id All_ids
  all_in id either = subst (λ (ids : List ℕ). In id ids) (sym all_is) (with_in id (timely clock (held_in k.queue)) (keys_of k.messages.entries) either)

  pub rise_all : IsStrictlySortedBy nat_cmp (keys_of k.messages.entries) → AreRising All_ids
  rise_all ascends = subst AreRising (sym all_is) (rise_with (timely clock (held_in k.queue)) (keys_of k.messages.entries)
      (rise_of (keys_of k.messages.entries) ascends))

  pub walk_begins : (walk : Walk) → walk.from ≡ 0 → IsNextBy (IsAsleep s reach) k.messages.entries 0 walk.live → IsLeastFrom 0 Is_asked walk.asked → IsWalk k s reach walk
  walk_begins walk from live asked = record {
    live = subst (λ (n : ℕ). IsNextBy (IsAsleep s reach) k.messages.entries n walk.live) (sym from) live;
    asked = subst (λ (n : ℕ). IsLeastFrom n Is_asked walk.asked) (sym from) asked;
  }

  -- a message of which no request asks, and which is asleep
  pub record IsPassed (id : ℕ) : Type 0 where
    pub unasked : In id Asked → ⊥
    pub message : Filed
    pub kept : value_at k.messages.entries id ≡ Some message
    pub asleep : IsAsleep s reach id message

  -- the next message is that of this id
  pub record IsNext (walk : Walk) (id : ℕ) : Type 0 where
    pub among : In id All_ids
    pub from : walk.from ≤ id
    pub passed : (other : ℕ) → In other All_ids → walk.from ≤ other → other < id → IsPassed other
    pub on : (new : Walk) → new.from ≡ suc id → (walk.live ≢ Some id → new.live ≡ walk.live) →
        (walk.live ≡ Some id → IsNextBy (IsAsleep s reach) k.messages.entries (suc id) new.live) →
        (walk.asked ≢ Some id → new.asked ≡ walk.asked) → (walk.asked ≡ Some id → IsLeastFrom (suc id) Is_asked new.asked) → IsWalk k s reach new

  same_or : (id : ℕ) (it : Option ℕ) → (it ≡ Some id) ⊎ (it ≢ Some id)
  same_or id None = inr (λ same. absurd (cc))
  same_or id (Some first) = elim (cases_Bool (first == id)) [
    | inl same ↦ inl (ap (λ (n : ℕ). Some n) ((Decides-eqb first id).0 same))
    | inr apart ↦ inr (λ same. let equal : first ≡ id = cc in let is_equal : (first == id) ≡ true = grind (arith, nat_tests) in true≢false
        (sym is_equal ∙ apart))
  ]

  -- nothing that is asked of, or live, stands before it
  abbrev Asked_from : ℕ → Option ℕ → Type 0
  Asked_from id None = Unit {0}
  Asked_from id (Some first) = id ≤ first

  module _ (walk : Walk) (is : IsWalk k s reach walk) (id : ℕ) (from : walk.from ≤ id) (live_from : Asked_from id walk.live)
      (asked_from : Asked_from id walk.asked) where
    asked_later : (other : ℕ) → Is_asked other → walk.from ≤ other → id ≤ other
    asked_later other among from_there = by_asked walk.asked is.asked asked_from
      where
        by_asked : (asked : Option ℕ) → IsLeastFrom walk.from Is_asked asked → Asked_from id asked → id ≤ other
        by_asked None least after = let below = least other among in absurd (omega (arith, below, from_there))
        by_asked (Some first) least after = let lower = least.1.1 other among from_there in omega (arith, lower, after)

    asleep_before : (other : ℕ) (m : Filed) → value_at k.messages.entries other ≡ Some m → walk.from ≤ other → other < id → IsAsleep s reach other m
    asleep_before other m found from_there before = by_live walk.live is.live live_from
      where
        by_live : (live : Option ℕ) → IsNextBy (IsAsleep s reach) k.messages.entries walk.from live → Asked_from id live → IsAsleep s reach other m
        by_live None next after = next other m found from_there
        by_live (Some first) next after = next.1.1 other m found from_there (omega (arith, before, after))

    passed_before : (other : ℕ) → In other All_ids → walk.from ≤ other → other < id → IsPassed other
    passed_before other among from_there before =
        let unasked : In other Asked → ⊥ = (λ asked. let lower = asked_later other asked from_there in absurd (omega (arith, lower, before))) in
        elim (in_all other among) [
          | inl kept ↦
              let found = is_kept k.messages.entries other kept in
              record { unasked = unasked; message = found.0; kept = found.1; asleep = asleep_before other found.0 found.1 from_there before }
          | inr asked ↦ absurd (unasked asked)
        ]

    live_then : (live : Option ℕ) → walk.live ≡ live → live ≢ Some id → IsNextBy (IsAsleep s reach) k.messages.entries (suc id) live
    live_then None at differs = let next = subst (IsNextBy (IsAsleep s reach) k.messages.entries walk.from) at is.live in
        λ other m found above. next other m found (omega (arith, above, from))
    live_then (Some first) at differs =
        let next = subst (IsNextBy (IsAsleep s reach) k.messages.entries walk.from) at is.live in
        let after : id ≤ first = subst (Asked_from id) at live_from in
        let higher : suc id ≤ first = elim (cases_Bool (first == id)) [
          | inl same ↦ absurd (differs (ap (λ (n : ℕ). Some n) ((Decides-eqb first id).0 same)))
          | inr apart ↦ grind (arith, nat_tests)
        ] in
        (next.0, (higher, λ other m found above before. next.1.1 other m found (omega (arith, above, from)) before))

    asked_then : (asked : Option ℕ) → walk.asked ≡ asked → asked ≢ Some id → IsLeastFrom (suc id) Is_asked asked
    asked_then None at differs = let least = subst (IsLeastFrom walk.from Is_asked) at is.asked in λ other among. let below =
        least other among in omega (arith, below, from)
    asked_then (Some first) at differs =
        let least = subst (IsLeastFrom walk.from Is_asked) at is.asked in
        let after : id ≤ first = subst (Asked_from id) at asked_from in
        let higher : suc id ≤ first = elim (cases_Bool (first == id)) [
          | inl same ↦ absurd (differs (ap (λ (n : ℕ). Some n) ((Decides-eqb first id).0 same)))
          | inr apart ↦ grind (arith, nat_tests)
        ] in
        (least.0, (higher, λ other among above. least.1.1 other among (omega (arith, above, from))))

    it_is_next : In id All_ids → IsNext walk id
    it_is_next among = record {
      among = among;
      from = from;
      passed = passed_before;
      on = λ new begins same_live live same_asked asked. record {
        live = subst (λ (n : ℕ). IsNextBy (IsAsleep s reach) k.messages.entries n new.live) (sym begins) (elim (same_or id walk.live) [
          | inl is_it ↦ live is_it
          | inr differs ↦ subst (IsNextBy (IsAsleep s reach) k.messages.entries (suc id)) (sym (same_live differs)) (live_then walk.live refl differs)
        ]);
        asked = subst (λ (n : ℕ). IsLeastFrom n Is_asked new.asked) (sym begins) (elim (same_or id walk.asked) [
          | inl is_it ↦ asked is_it
          | inr differs ↦ subst (IsLeastFrom (suc id) Is_asked) (sym (same_asked differs)) (asked_then walk.asked refl differs)
        ]);
      };
    }

  pub next_is : (walk : Walk) → IsWalk k s reach walk → (id : ℕ) → lower_of walk.live walk.asked ≡ Some id → IsNext walk id
  next_is walk is id next = by_both walk.live walk.asked refl refl next
    where
      live_one : (first : ℕ) → walk.live ≡ Some first → Asked_from first walk.asked → IsNext walk first
      live_one first at asked_from =
          let live = subst (IsNextBy (IsAsleep s reach) k.messages.entries walk.from) at is.live in
          it_is_next walk is first live.1.0 (subst (Asked_from first) (sym at) (omega arith)) asked_from (all_in first (inl live.0))

      asked_one : (first : ℕ) → walk.asked ≡ Some first → Asked_from first walk.live → IsNext walk first
      asked_one first at live_from =
          let asked = subst (IsLeastFrom walk.from Is_asked) at is.asked in
          it_is_next walk is first asked.1.0 live_from (subst (Asked_from first) (sym at) (omega arith)) (all_in first (inr asked.0))

      so : (one : ℕ) → IsNext walk one → Some one ≡ Some id → IsNext walk id
      so one is_one same = let ids : one ≡ id = cc in subst (IsNext walk) ids is_one

      by_both : (live asked : Option ℕ) → walk.live ≡ live → walk.asked ≡ asked → lower_of live asked ≡ Some id → IsNext walk id
      by_both None None live_is asked_is same = absurd (cc)
      by_both None (Some first) live_is asked_is same = so first (asked_one first asked_is (subst (Asked_from first) (sym live_is) tt)) same
      by_both (Some first) None live_is asked_is same = so first (live_one first live_is (subst (Asked_from first) (sym asked_is) tt)) same
      by_both (Some first) (Some other) live_is asked_is same = by_test (nat_lt other first) refl same
        where
          by_test : (test : Bool) → nat_lt other first ≡ test → (if test then Some other else Some first) ≡ Some id → IsNext walk id
          by_test true below it =
              let lower : other ≤ first = grind (arith, nat_tests) in
              so other (asked_one other asked_is (subst (Asked_from other) (sym live_is) lower)) it
          by_test false above it =
              let lower : first ≤ other = grind (arith, nat_tests) in
              so first (live_one first live_is (subst (Asked_from first) (sym asked_is) lower)) it

  -- all that are left are passed
  pub all_passed : (walk : Walk) → IsWalk k s reach walk → lower_of walk.live walk.asked ≡ None → (other : ℕ) → In other All_ids →
      walk.from ≤ other →
      IsPassed other
  all_passed walk is none other among from_there = by_both walk.live walk.asked refl refl none
    where
      by_both : (live asked : Option ℕ) → walk.live ≡ live → walk.asked ≡ asked → lower_of live asked ≡ None → IsPassed other
      by_both None None live_is asked_is so =
          passed_before walk is (suc other) (omega (arith, from_there)) (subst (Asked_from (suc other)) (sym live_is) tt)
          (subst (Asked_from (suc other)) (sym asked_is) tt) other among from_there (omega arith)
      by_both None (Some first) live_is asked_is so = absurd (cc)
      by_both (Some first) None live_is asked_is so = absurd (cc)
      by_both (Some first) (Some second) live_is asked_is so = by_test (nat_lt second first) so
        where
          by_test : (test : Bool) → (if test then Some second else Some first) ≡ None → IsPassed other
          by_test true it = absurd (cc)
          by_test false it = absurd (cc)

-- ---- those that are left

pub left_from : (from id : ℕ) (ids : List ℕ) → from ≤ id → filter (nat_le id) (filter (nat_le from) ids) ≡ filter (nat_le id) ids
left_from from id [] above = refl
left_from from id (x ∷ xs) above = by_test (nat_le from x) refl (nat_le id x) refl (left_from from id xs above)
  where
    by_test : (low : Bool) → nat_le from x ≡ low → (high : Bool) → nat_le id x ≡ high → filter (nat_le id) (filter (nat_le from) xs) ≡ filter (nat_le id) xs →
        filter (nat_le id) (cond low (x ∷ filter (nat_le from) xs) (filter (nat_le from) xs)) ≡ cond high (x ∷ filter (nat_le id) xs) (filter (nat_le id) xs)
    by_test true lower true higher rest = rw higher (ap (λ (ys : List ℕ). x ∷ ys) rest)
    by_test true lower false higher rest = rw higher rest
    by_test false lower true higher rest = absurd (let below : x < from = grind (arith, nat_tests) in let over : id ≤ x = grind
        (arith, nat_tests) in omega (arith, below, over, above))
    by_test false lower false higher rest = rest

-- those from a number on are among them, and are not below it
pub in_left : (from other : ℕ) (ids : List ℕ) → In other (filter (nat_le from) ids) → In other ids × (from ≤ other)
in_left from other [] none = absurd none
in_left from other (x ∷ xs) among = by_test (nat_le from x) refl among (in_left from other xs)
  where
    by_test : (test : Bool) → nat_le from x ≡ test → In other (cond test (x ∷ filter (nat_le from) xs) (filter (nat_le from) xs)) →
        (In other (filter (nat_le from) xs) → In other xs × (from ≤ other)) → ((other ≡ x) ⊎ In other xs) × (from ≤ other)
    by_test true at (inl same) rest = let lower : from ≤ x = grind (arith, nat_tests) in (inl same, omega (arith, lower, same))
    by_test true at (inr later) rest = let there = rest later in (inr there.0, there.1)
    by_test false at later rest = let there = rest later in (inr there.0, there.1)

above_left : (low from : ℕ) (xs : List ℕ) → AllByRecursion (λ (y : ℕ). low < y) xs → AllByRecursion (λ (y : ℕ). low < y) (filter (nat_le from) xs)
above_left low from [] all = tt
above_left low from (x ∷ xs) all = by_test (nat_le from x) (above_left low from xs all.1)
  where
    by_test : (test : Bool) → AllByRecursion (λ (y : ℕ). low < y) (filter (nat_le from) xs) →
        AllByRecursion (λ (y : ℕ). low < y) (cond test (x ∷ filter (nat_le from) xs) (filter (nat_le from) xs))
    by_test true rest = (all.0, rest)
    by_test false rest = rest

pub rise_left : (from : ℕ) (xs : List ℕ) → AreRising xs → AreRising (filter (nat_le from) xs)
rise_left from [] rise = tt
rise_left from (x ∷ xs) rise = by_test (nat_le from x) (rise_left from xs rise.1)
  where
    by_test : (test : Bool) → AreRising (filter (nat_le from) xs) → AreRising (cond test (x ∷ filter (nat_le from) xs) (filter (nat_le from) xs))
    by_test true rest = (above_left x from xs rise.0, rest)
    by_test false rest = rest

-- the next one comes first
pub first_left : (id : ℕ) (ids : List ℕ) → AreRising ids → In id ids → filter (nat_le id) ids ≡ id ∷ filter (nat_le (suc id)) ids
first_left id ids rise among = least_first id id ids rise among (omega arith) (λ other there from. from)

pub fewer_left : (from id : ℕ) (ids : List ℕ) → AreRising ids → In id ids → from ≤ id →
    length (filter (nat_le (suc id)) ids) < length (filter (nat_le from) ids)
fewer_left from id ids rise among above =
    let first : length (filter (nat_le id) ids) ≡ suc (length (filter (nat_le (suc id)) ids)) = ap (λ (xs : List ℕ). length xs)
    (first_left id ids rise among) in
    let less : length (filter (nat_le id) ids) ≤ length (filter (nat_le from) ids) =
    subst (λ (xs : List ℕ). length xs ≤ length (filter (nat_le from) ids)) (left_from from id ids above) (no_more (nat_le id) (filter (nat_le from) ids)) in
    omega (arith, first, less)
  where
    no_more : (test : ℕ → Bool) (xs : List ℕ) → length (filter test xs) ≤ length xs
    no_more test [] = omega arith
    no_more test (x ∷ xs) = by_test (test x) (no_more test xs)
      where
        by_test : (is : Bool) → length (filter test xs) ≤ length xs → length (cond is (x ∷ filter test xs) (filter test xs)) ≤ suc (length xs)
        by_test true rest = omega (arith, rest)
        by_test false rest = omega (arith, rest)
