-- The messages that are named, queue by queue.
use Rattle.std.proofs.Common.{◌≡◌, ℕ, ◌+◌, ◌<◌, ◌≤◌, ◌↔◌, Bool, true, false, cond, List, [], ◌∷◌, ◌++◌, add-one, drop, get_or, length, refl, ap, sym, ◌∙◌, arith}
use Rattle.std.specs.Prelude.{All, Contains, IsTrue, count_by, filter, take, ◌&&◌}
use Rattle.std.specs.List.{flat_map}
use Rattle.std.proofs.Math.ListN.{set}
use Rattle.std.proofs.Math.Seq.{take-suc}
use Rattle.std.proofs.lemmas.Bool.{and_parts}
use Rattle.std.proofs.lemmas.Grind.{flat_map-append}
use Rattle.std.proofs.lemmas.List.{append-nil}
use Rattle.std.proofs.lemmas.List.Edits.{map_over_more}
use Rattle.std.proofs.lemmas.List.Sums.{fold-append}
use Rattle.std.proofs.lemmas.List.Elements.{All-append, All-contains_itself, All-take, Contains-get_or, filter-append}
use Rattle.std.specs.BTreeSet.{insert_key}
use Rattle.std.specs.Ordering.{nat_cmp}
use Rattle.waiting_messages.specs.Queues.{Queue, all_named, all_passed, first_due, is_due, is_for}
use Rattle.waiting_messages.specs.Named.{IsFirstOfOne, IsNameable, NameableTest, NamesFirst, NamesShares, all_passed_in, firsts_in, passed_if, share_of}
use Rattle.waiting_messages.proofs.Spreading.{begins_told}

-- these are put among the ids behind those
put-more : (old mid new : List ℕ) (dues more : List (ℕ × ℕ)) → mid ≡ all_named old dues → new ≡ all_named mid more → new ≡ all_named old (dues ++ more)
put-more old mid new dues more before is =
    is ∙ ap (λ (ids : List ℕ). all_named ids more) before ∙ sym (fold-append (λ (ids : List ℕ) (due : ℕ × ℕ). insert_key nat_cmp ids due.1) old dues more)

module _ (spread : List (List (List ℕ))) (node now share : ℕ) (account : List ℕ) (queues : List Queue) where
  pub names-more : (old mid new : List ℕ) (queue : Queue) (dues : List (ℕ × ℕ)) → NamesFirst spread node now share account queues old mid →
      Contains queues queue → IsNameable spread node now account queue → All (Contains (first_due now share queue)) dues →
      new ≡ all_named mid dues → NamesFirst spread node now share account queues old new
  names-more old mid new queue dues before one nameable first is =
      record {
        dues = before.dues ++ dues;
        are_put = put-more old mid new before.dues dues before.are_put is;
        are_first = All-append (IsFirstOfOne spread node now share account queues) before.dues dues before.are_first
            (λ k d below. record { queue = queue; one = one; nameable = nameable; first = first k d below });
      }

  -- all of them, or the first so many
  pub first-all : (queue : Queue) → All (Contains (first_due now share queue)) (first_due now share queue)
  first-all queue = All-contains_itself (first_due now share queue)

  pub first-some : (queue : Queue) (count : ℕ) → All (Contains (first_due now share queue)) (take count (first_due now share queue))
  first-some queue count = All-take (Contains (first_due now share queue)) count (first_due now share queue) (first-all queue)

-- one that has not been passed is as it was
pub one_of : (queues now_are : List Queue) (index : ℕ) (d : Queue) → index < length now_are → length now_are ≡ length queues →
    ((k : ℕ) (e : Queue) → index ≤ k → get_or now_are k e ≡ get_or queues k e) → Contains queues (get_or now_are index d)
one_of queues now_are index d below same later =
    let here : index < length queues = omega arith in
    rw (later index d (omega arith)) (Contains-get_or queues index d here)

-- ---- which queues may be named

same_answer : (P : Type 0) (one other : Bool) → (IsTrue one ↔ P) → (IsTrue other ↔ P) → one ≡ other
same_answer P true true first second = refl
same_answer P true false first second = sym (second.1 (first.0 refl))
same_answer P false true first second = first.1 (second.0 refl)
same_answer P false false first second = refl

-- what tells of a queue whether it may be named tells it as the test does
pub told : (spread : List (List (List ℕ))) (node now : ℕ) (account : List ℕ) (test : NameableTest spread node now account) (queue : Queue) (is : Bool) →
    (IsTrue is ↔ IsNameable spread node now account queue) → test.passes queue ≡ is
told spread node now account test queue is tells =
    same_answer (IsNameable spread node now account queue) (test.passes queue) is (test.tells queue) tells

three : (a b c : Bool) → a ≡ true → b ≡ true → c ≡ true → (a && b && c) ≡ true
three true true true x y z = refl
three true true false x y z = z
three true false c x y z = absurd (cc)
three false b c x y z = absurd (cc)

-- there is one
pub test_of : (spread : List (List (List ℕ))) (node now : ℕ) (account : List ℕ) → NameableTest spread node now account
test_of spread node now account =
    record {
      passes = λ queue. is_for account queue && is_due now queue && (begins_told spread queue.home account node).0;
      tells = λ queue. let begins = begins_told spread queue.home account node in (
        λ h. let last = and_parts (is_for account queue && is_due now queue) begins.0 h in
            let first = and_parts (is_for account queue) (is_due now queue) last.0 in
            record { is_for = first.0; is_due = first.1; begins = begins.1.0 last.1 },
        λ h. three (is_for account queue) (is_due now queue) begins.0 h.is_for h.is_due (begins.1.1 h.begins),
      );
    }

-- ---- all that may be named

module _ (passes : Queue → Bool) (now share : ℕ) (queues : List Queue) (i : ℕ) (queue d : Queue) where
  firsts-more : (is : Bool) → i < length queues → queue ≡ get_or queues i d → passes queue ≡ is →
      firsts_in passes now share (take (i + 1) queues) ≡ firsts_in passes now share (take i queues) ++ cond is (first_due now share queue) []
  firsts-more is below same tells =
      rw (add-one, take-suc queues i d below, ← same, filter-append, flat_map-append, tells) (one_more is)
    where
      one_more : (is : Bool) → firsts_in passes now share (take i queues) ++ flat_map (first_due now share) (cond is (queue ∷ []) []) ≡
          firsts_in passes now share (take i queues) ++ cond is (first_due now share queue) []
      one_more true = rw (append-nil (first_due now share queue)) refl
      one_more false = refl

  pub named-more : (old mid new : List ℕ) (is : Bool) → i < length queues → queue ≡ get_or queues i d → passes queue ≡ is →
      mid ≡ all_named old (firsts_in passes now share (take i queues)) → new ≡ all_named mid (cond is (first_due now share queue) []) →
      new ≡ all_named old (firsts_in passes now share (take (i + 1) queues))
  named-more old mid new is below same tells before more =
      rw (firsts-more is below same tells) (put-more old mid new (firsts_in passes now share (take i queues)) (cond is (first_due now share queue) []) before more)

  pub passed-more : (now_are : List Queue) (after : Queue) (is : Bool) → i < length queues → queue ≡ get_or now_are i queue → passes queue ≡ is →
      now_are ≡ all_passed_in passes now share (take i queues) ++ drop i queues → after ≡ cond is (all_passed now queue (first_due now share queue)) queue →
      set now_are i after ≡ all_passed_in passes now share (take (i + 1) queues) ++ drop (i + 1) queues
  passed-more now_are after is below same tells before more =
      let e : after ≡ passed_if passes now share queue = rw tells more in
      rw e (map_over_more (passed_if passes now share) queues now_are i queue below before same)

-- if nothing is shared, none is named
pub named-none : (passes : Queue → Bool) (now : ℕ) (queues : List Queue) → firsts_in passes now 0 queues ≡ []
named-none passes now queues = none_in (filter passes queues)
  where
    none_in : (some : List Queue) → flat_map (first_due now 0) some ≡ []
    none_in [] = refl
    none_in (queue ∷ others) = none_in others

pub passed-none : (passes : Queue → Bool) (now : ℕ) (queues : List Queue) → all_passed_in passes now 0 queues ≡ queues
passed-none passes now [] = refl
passed-none passes now (queue ∷ others) = rw (as_it_was (passes queue)) (ap (λ (rest : List Queue). queue ∷ rest) (passed-none passes now others))
  where
    as_it_was : (is : Bool) → cond is queue queue ≡ queue
    as_it_was true = refl
    as_it_was false = refl

-- what is named by any such test, with its share, is named by one
pub shares_of : (spread : List (List (List ℕ))) (node now most share : ℕ) (account : List ℕ) (queues left : List Queue) (old new : List ℕ) →
    ((test : NameableTest spread node now account) → share ≡ share_of most (count_by test.passes queues)) →
    ((test : NameableTest spread node now account) → new ≡ all_named old (firsts_in test.passes now share queues)) →
    ((test : NameableTest spread node now account) → left ≡ all_passed_in test.passes now share queues) →
    NamesShares spread node now most account queues left old new
shares_of spread node now most share account queues left old new is named passed =
    let test : NameableTest spread node now account = test_of spread node now account in
    record { test = test; named = rw (← (is test)) (named test); passed = rw (← (is test)) (passed test) }
