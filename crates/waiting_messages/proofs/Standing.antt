-- How often a message stands in the queues, through what changes them.
use Rattle.std.proofs.Common.{◌≡◌, ℕ, ◌+◌, ◌<◌, Bool, true, false, cond, eqb, ltb, List, [], ◌∷◌, ◌++◌, Some, None, Option, arith, refl, sym, ap, ◌∙◌, drop, length, get_or}
use Rattle.std.specs.Prelude.{filter, not, sum_by, slice_get, option_and_then, is_some, if◌then◌else◌, ◌&&◌}
use Rattle.std.specs.List.{list_any}
use Rattle.std.specs.Ordering.{is_eq, nat_cmp}
use Rattle.std.specs.BTreeMap.{is_at}
use Rattle.std.specs.Prelude.{Result, Ok, Err, OnErr, OnOk, IsTrue, ◌↔◌}
use Rattle.std.specs.Result.{is_err}
use Rattle.std.proofs.Common.{⊎_elim}
use Rattle.std.proofs.lemmas.Bool.Decides.{eqb_tells, nat_tests}
use Rattle.std.proofs.lemmas.Bool.{and_parts, eqb-true, eq-eqb}
use Rattle.std.proofs.lemmas.List.Sums.{sum_by_push, sum_by-set, sum_by-cons}
use Rattle.std.proofs.lemmas.Option.{slice_get_within, get_or_from_slice_get, slice_get-get_or}
use Rattle.waiting_messages.specs.Lanes.{Lane, Waiter, changed_at, empty, front, is_empty, place_of, put_behind, times_in, times_in_lane, with_lane, without_front}

-- one if it is that message
abbrev pub one_if : ℕ → ℕ → ℕ
one_if id q = cond (eqb id q) 1 0

abbrev pub is_it : ℕ → Waiter → ℕ
is_it q waiter = cond (eqb waiter.id q) 1 0

-- ---- one lane

pub times-put_behind : (q : ℕ) (long : Bool) (waiter : Waiter) (lane : Lane) →
    times_in_lane q (put_behind long waiter lane) ≡ times_in_lane q lane + one_if waiter.id q
times-put_behind q true waiter lane = omega (arith, sum_by_push (is_it q) lane.long waiter)
times-put_behind q false waiter lane = omega (arith, sum_by_push (is_it q) lane.short waiter)

times-drop : (q : ℕ) (waiters : List Waiter) (waiter : Waiter) → slice_get waiters 0 ≡ Some waiter →
    sum_by (is_it q) waiters ≡ one_if waiter.id q + sum_by (is_it q) (drop 1 waiters)
times-drop q [] waiter e = absurd (cc)
times-drop q (w ∷ ws) waiter e =
    let same : w ≡ waiter = cc in sum_by-cons (is_it q) w ws ∙ ap (λ (v : Waiter). is_it q v + sum_by (is_it q) ws) same

pub times-without_front : (q : ℕ) (long : Bool) (waiter : Waiter) (lane : Lane) → front long lane ≡ Some waiter →
    times_in_lane q (without_front long lane) + one_if waiter.id q ≡ times_in_lane q lane
times-without_front q true waiter lane e = omega (arith, times-drop q lane.long waiter e)
times-without_front q false waiter lane e = omega (arith, times-drop q lane.short waiter e)

drop-none : (waiters : List Waiter) → slice_get waiters 0 ≡ None → drop 1 waiters ≡ waiters
drop-none [] e = refl
drop-none (w ∷ ws) e = absurd (cc)

times-no_front : (q : ℕ) (long : Bool) (lane : Lane) → front long lane ≡ None → times_in_lane q (without_front long lane) ≡ times_in_lane q lane
times-no_front q true lane e = omega (arith, ap (sum_by (is_it q)) (drop-none lane.long e))
times-no_front q false lane e = omega (arith, ap (sum_by (is_it q)) (drop-none lane.short e))

none-empty : (q : ℕ) (waiters : List Waiter) → eqb (length waiters) 0 ≡ true → sum_by (is_it q) waiters ≡ 0
none-empty q [] e = refl
none-empty q (w ∷ ws) e = absurd (omega (arith, eqb-true (length (w ∷ ws)) 0 e))

times-empty : (q : ℕ) (lane : Lane) → is_empty lane ≡ true → times_in_lane q lane ≡ 0
times-empty q lane e =
    let none = and_parts (eqb (length lane.long) 0) (eqb (length lane.short) 0) e in
    omega (arith, none-empty q lane.long none.0, none-empty q lane.short none.1)

-- ---- all lanes

times-changed_at : (q place : ℕ) (change : Lane → Lane) (lanes : List Lane) (lane : Lane) → slice_get lanes place ≡ Some lane →
    times_in q (changed_at place change lanes) + times_in_lane q lane ≡ times_in q lanes + times_in_lane q (change lane)
times-changed_at q place change lanes lane e =
    rw e (rw (get_or_from_slice_get lanes place lane lane e) at (sum_by-set (times_in_lane q) lanes place (change lane) lane (slice_get_within lanes place lane e)))

there : (lanes : List Lane) (place : ℕ) → place < length lanes → (lane : Lane) × (slice_get lanes place ≡ Some lane)
there [] place below = absurd (omega arith)
there (lane ∷ lanes) place below = (get_or (lane ∷ lanes) place lane, slice_get-get_or (lane ∷ lanes) place lane below)

times-put : (q place : ℕ) (long : Bool) (waiter : Waiter) (lanes : List Lane) → place < length lanes →
    times_in q (changed_at place (put_behind long waiter) lanes) ≡ times_in q lanes + one_if waiter.id q
times-put q place long waiter lanes below =
    let found = there lanes place below in
    omega (arith, times-changed_at q place (put_behind long waiter) lanes found.0 found.1, times-put_behind q long waiter found.0)

times-lane_if : (q : ℕ) (account : List ℕ) (lanes : List Lane) (had : Bool) →
    times_in q (cond had lanes (lanes ++ empty account ∷ [])) ≡ times_in q lanes
times-lane_if q account lanes true = refl
times-lane_if q account lanes false = omega (arith, sum_by_push (times_in_lane q) lanes (empty account))

pub times-with_lane : (q : ℕ) (account : List ℕ) (lanes : List Lane) → times_in q (with_lane account lanes) ≡ times_in q lanes
times-with_lane q account lanes = times-lane_if q account lanes (is_some (place_of account lanes))

times-kept : (q : ℕ) (lane : Lane) (none : Bool) → is_empty lane ≡ none → (kept lanes : List Lane) → times_in q kept ≡ times_in q lanes →
    times_in q (cond (not none) (lane ∷ kept) kept) ≡ times_in q (lane ∷ lanes)
times-kept q lane true e kept lanes same = omega (arith, same, sum_by-cons (times_in_lane q) lane lanes, times-empty q lane e)
times-kept q lane false e kept lanes same =
    omega (arith, same, sum_by-cons (times_in_lane q) lane kept, sum_by-cons (times_in_lane q) lane lanes)

pub times-tidy : (q : ℕ) (lanes : List Lane) → times_in q (filter (λ lane. not (is_empty lane)) lanes) ≡ times_in q lanes
times-tidy q [] = refl
times-tidy q (lane ∷ lanes) = times-kept q lane (is_empty lane) refl (filter (λ lane. not (is_empty lane)) lanes) lanes (times-tidy q lanes)

-- ---- the numbers of all that wait

-- by a test, each message stands there once or not at all
abbrev pub Once : (ℕ → Bool) → List Lane → Type 0
Once has lanes = (q : ℕ) → times_in q lanes ≡ (if has q then 1 else 0)

pub same_test : (id q : ℕ) → is_eq (nat_cmp id q) ≡ eqb id q
same_test id q = grind (arith, nat_tests)

comes : (is : Bool) (old new : ℕ) (had has : Bool) → old ≡ cond had 1 0 → has ≡ cond is true had → new ≡ old + cond is 1 0 → (is ≡ true → had ≡ false) →
    new ≡ cond has 1 0
comes true old new true has o h n apart = absurd (let no : true ≡ false = apart refl in cc)
comes true old new false has o h n apart = rw h (omega (arith, o, n))
comes false old new true has o h n apart = rw h (omega (arith, o, n))
comes false old new false has o h n apart = rw h (omega (arith, o, n))

leaves : (is : Bool) (old new : ℕ) (had has : Bool) → old ≡ cond had 1 0 → has ≡ cond is false had → new + cond is 1 0 ≡ old → new ≡ cond has 1 0
leaves true old new true has o h n = rw h (omega (arith, o, n))
leaves true old new false has o h n = absurd (omega (arith, o, n))
leaves false old new true has o h n = rw h (omega (arith, o, n))
leaves false old new false has o h n = rw h (omega (arith, o, n))

not_there : (times : ℕ) (had : Bool) → times ≡ cond had 1 0 → ltb 0 times ≡ false → had ≡ false
not_there times true e none = absurd (let one : ltb 0 times ≡ true = rw e refl in cc)
not_there times false e none = refl

apart_from : (id q : ℕ) (lanes : List Lane) (had : ℕ → Bool) → Once had lanes → ltb 0 (times_in id lanes) ≡ false → eqb id q ≡ true → had q ≡ false
apart_from id q lanes had once none e = rw (← eqb-true id q e) (not_there (times_in id lanes) (had id) (once id) none)

-- a message that does not wait comes behind the others
pub once-put : (waiter : Waiter) (long : Bool) (place : ℕ) (old new : List Lane) (had has : ℕ → Bool) → Once had old →
    ltb 0 (times_in waiter.id old) ≡ false → (lanes : List Lane) → ((q : ℕ) → times_in q lanes ≡ times_in q old) → place < length lanes →
    new ≡ changed_at place (put_behind long waiter) lanes → ((q : ℕ) → has q ≡ cond (is_eq (nat_cmp waiter.id q)) true (had q)) → Once has new
once-put waiter long place old new had has once none lanes same below is now q =
    comes (eqb waiter.id q) (times_in q old) (times_in q new) (had q) (has q) (once q) (rw (same_test waiter.id q) at (now q))
    (omega (arith, ap (times_in q) is, times-put q place long waiter lanes below, same q)) (apart_from waiter.id q old had once none)

undone : (is had : Bool) → (is ≡ true → had ≡ false) → cond is false (cond is true had) ≡ had
undone true had apart = sym (apart refl)
undone false had apart = refl

-- it does not come after all
pub once-back : (id : ℕ) (old new : List Lane) (had has now : ℕ → Bool) → Once had old → ltb 0 (times_in id old) ≡ false →
    ((q : ℕ) → times_in q new ≡ times_in q old) → ((q : ℕ) → has q ≡ cond (is_eq (nat_cmp id q)) true (had q)) →
    ((q : ℕ) → now q ≡ cond (is_eq (nat_cmp id q)) false (has q)) → Once now new
once-back id old new had has now once none same put back q =
    same q ∙ once q ∙ ap (λ (b : Bool). cond b 1 0) (sym (rw (back q, put q, same_test id q) (undone (eqb id q) (had q) (apart_from id q old had once none))))

taken : (q place : ℕ) (long : Bool) (lanes : List Lane) (waiter : Waiter) (found : Option Lane) → slice_get lanes place ≡ found →
    option_and_then (front long) found ≡ Some waiter →
    times_in q (changed_at place (without_front long) lanes) + one_if waiter.id q ≡ times_in q lanes
taken q place long lanes waiter None e first = absurd (cc)
taken q place long lanes waiter (Some lane) e first =
    omega (arith, times-changed_at q place (without_front long) lanes lane e, times-without_front q long waiter lane first)

not_taken : (q place : ℕ) (long : Bool) (lanes : List Lane) (found : Option Lane) → slice_get lanes place ≡ found →
    option_and_then (front long) found ≡ None → times_in q (changed_at place (without_front long) lanes) ≡ times_in q lanes
not_taken q place long lanes None e first = rw e refl
not_taken q place long lanes (Some lane) e first =
    omega (arith, times-changed_at q place (without_front long) lanes lane e, times-no_front q long lane first)

-- the first of a kind leaves
pub once-taken : (waiter : Waiter) (long : Bool) (place : ℕ) (old new : List Lane) (had has : ℕ → Bool) → Once had old →
    option_and_then (front long) (slice_get old place) ≡ Some waiter → new ≡ changed_at place (without_front long) old →
    ((q : ℕ) → has q ≡ cond (is_eq (nat_cmp waiter.id q)) false (had q)) → Once has new
once-taken waiter long place old new had has once first is now q =
    leaves (eqb waiter.id q) (times_in q old) (times_in q new) (had q) (has q) (once q) (rw (same_test waiter.id q) at (now q))
    (omega (arith, ap (times_in q) is, taken q place long old waiter (slice_get old place) refl first))

-- none leaves
pub once-not_taken : (long : Bool) (place : ℕ) (old new : List Lane) (had : ℕ → Bool) → Once had old →
    option_and_then (front long) (slice_get old place) ≡ None → new ≡ changed_at place (without_front long) old → Once had new
once-not_taken long place old new had once first is q =
    ap (times_in q) is ∙ not_taken q place long old (slice_get old place) refl first ∙ once q

-- if there is a number, its message waits
pub some_waits : (numbers : List ℕ) (lanes : List Lane) → Once (λ q. list_any (is_at (nat_cmp q)) numbers) lanes → eqb (length numbers) 0 ≡ false →
    (id : ℕ) × (ltb 0 (times_in id lanes) ≡ true)
some_waits [] lanes once some = absurd (cc)
some_waits (id ∷ ids) lanes once some =
    let has : list_any (is_at (nat_cmp id)) (id ∷ ids) ≡ true = rw (same_test id id, eq-eqb id id refl) refl in
    let e : times_in id lanes ≡ 1 = once id ∙ ap (λ (b : Bool). cond b 1 0) has in
    (id, rw e refl)

-- ---- what a result says

pub on_err : {A E : Type 0} (r : Result A E) (P : Type 0) → is_err r ≡ true → OnErr r P → P
on_err (Ok x) P e h = absurd (cc)
on_err (Err x) P e h = h

pub on_ok : {A E : Type 0} (r : Result A E) (P : Type 0) → is_err r ≡ false → OnOk r P → P
on_ok (Ok x) P e h = h
on_ok (Err x) P e h = absurd (cc)

pub some_there : (none : Bool) (number : ℕ) → (IsTrue none ↔ (number ≡ 0)) → none ≡ false → eqb number 0 ≡ false
some_there true number is e = absurd (cc)
some_there false number is e = ⊎_elim (λ t. absurd (let no : false ≡ true = is.1 t.1 in cc)) (λ t. t.0) (eqb_tells number 0)
