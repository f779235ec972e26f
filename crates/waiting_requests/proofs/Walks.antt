-- What is done with all that wait, one after another.
use Rattle.std.proofs.Common.{◌≡◌, ℕ, zero, suc, ◌+◌, ◌<◌, ◌≤◌, ◌++◌, Bool, true, false, cond, List, [], ◌∷◌, map, length, take, drop, set}
use Rattle.std.proofs.Common.{get_or, option_map, Option, Some, None, refl, sym, ap, subst, ◌∙◌, arith}
use Rattle.std.specs.Prelude.{◌==◌, ◌||◌, Err, IsSome, Ok, OnErr, Result, filter, nat_lt, not}
use Rattle.std.specs.List.{list_any, position, position_or_len}
use Rattle.std.proofs.lemmas.Bool.{eqb-true, ltb-false}
use Rattle.std.proofs.lemmas.List.Sums.{fails_before_first}
use Rattle.std.specs.Global.{Box}
use Rattle.std.specs.Box.{box_value}
use Rattle.std.specs.Option.{is_none, option_to_list}
use Rattle.std.proofs.lemmas.List.{append_assoc, append-nil, drop_more, drop-set-lt, map-append, take_more, take_more_set}
use Rattle.mc_model.specs.node.Outputs.{Reply}
use Rattle.mc_model.specs.node.Replies.{Answer}
use Rattle.node_model.specs.Kept.{Held}
use Rattle.mc_model.specs.message.Decree.{Decree}
use Rattle.node_model.specs.Answers.{replied, replies_to, reply_of}
use Rattle.node_model.specs.Requests.{ticket_of, with_held}
use Rattle.waiting_requests.specs.declared.answer.Reply.{Reply as Sent}
use Rattle.waiting_requests.specs.Replying.{reply_given, reply_with}
use Rattle.node_model.specs.Requests.{Ascend, IsBelow}
use Rattle.waiting_requests.specs.Queues.{boxed_in}
use Rattle.waiting_requests.specs.Waiting.{Waits, held_of}

abbrev pub in_box : Box Waits → Held
in_box b = held_of (box_value b)

pub boxed_append : (xs ys : List (Box Waits)) → boxed_in (xs ++ ys) ≡ boxed_in xs ++ boxed_in ys
boxed_append [] ys = refl
boxed_append (x ∷ xs) ys = ap (λ (hs : List Held). in_box x ∷ hs) (boxed_append xs ys)

-- ---- those that are kept

pub kept_in : (test : Held → Bool) (boxes : List (Box Waits)) → boxed_in (filter (λ b. test (in_box b)) boxes) ≡ filter test (boxed_in boxes)
kept_in test [] = refl
kept_in test (b ∷ boxes) = at_test (test (in_box b)) (kept_in test boxes)
  where
    at_test : (pass : Bool) → boxed_in (filter (λ c. test (in_box c)) boxes) ≡ filter test (boxed_in boxes) →
        boxed_in (cond pass (b ∷ filter (λ c. test (in_box c)) boxes) (filter (λ c. test (in_box c)) boxes)) ≡ cond pass
        (in_box b ∷ filter test (boxed_in boxes)) (filter test (boxed_in boxes))
    at_test true same = ap (λ (hs : List Held). in_box b ∷ hs) same
    at_test false same = same

-- ---- replies

pub replied_is : (items : List Sent) (reply : Option Sent) (h : Held) (answer : Option Answer) (rest : List Reply) →
    option_map reply_given reply ≡ reply_with h answer →
    map reply_given (items ++ option_to_list reply) ++ rest ≡ map reply_given items ++ replied h answer rest
replied_is items None h None rest same = ap (λ (all : List Sent). map reply_given all ++ rest) (append-nil items)
replied_is items None h (Some answer) rest same = absurd (cc)
replied_is items (Some reply) h None rest same = absurd (cc)
replied_is items (Some reply) h (Some answer) rest same =
    let given : reply_given reply ≡ record { ticket = h.waiting.ticket; id = _; answer = answer } = cc in
    ap (λ (all : List Reply). all ++ rest) (map-append reply_given items (reply ∷ []))
    ∙ append_assoc (map reply_given items) (reply_given reply ∷ []) rest
    ∙ ap (λ (r : Reply). map reply_given items ++ r ∷ rest) given

-- a reply is there, so there is an answer
pub answered_if : (h : Held) (answer : Option Answer) (reply : Option Sent) → option_map reply_given reply ≡ reply_with h answer → IsSome reply →
    not (is_none answer) ≡ true
answered_if h answer None same there = absurd (cc)
answered_if h None (Some reply) same there = absurd (cc)
answered_if h (Some answer) (Some reply) same there = refl

-- ---- each is changed

module _ (f : Held → Held) (old cur : List (Box Waits)) (i : ℕ) (x b : Box Waits) (within : i < length cur) (before : i < length old)
    (is : x ≡ get_or cur i x) where
  split : drop i cur ≡ drop i old → x ∷ drop (i + 1) cur ≡ get_or old i x ∷ drop (i + 1) old
  split back = ap (λ (c : Box Waits). c ∷ drop (i + 1) cur) is ∙ sym (drop_more cur i x within) ∙ back ∙ drop_more old i x before

  same_here : drop i cur ≡ drop i old → x ≡ get_or old i x
  same_here back = let all = split back in cc

  pub changed_front : in_box b ≡ f (in_box x) → boxed_in (take i cur) ≡ map f (boxed_in (take i old)) → drop i cur ≡ drop i old →
      boxed_in (take (i + 1) (set cur i b)) ≡ map f (boxed_in (take (i + 1) old))
  changed_front here front back =
      ap boxed_in (take_more_set cur i b within)
      ∙ boxed_append (take i cur) (b ∷ [])
      ∙ (λ j. front j ++ (here ∙ ap (λ (c : Box Waits). f (in_box c)) (same_here back)) j ∷ [])
      ∙ sym (map-append f (boxed_in (take i old)) (in_box (get_or old i x) ∷ []))
      ∙ ap (map f) (sym (boxed_append (take i old) (get_or old i x ∷ [])))
      ∙ ap (λ (cs : List (Box Waits)). map f (boxed_in cs)) (sym (take_more old i x before))

  pub changed_back : drop i cur ≡ drop i old → drop (i + 1) (set cur i b) ≡ drop (i + 1) old
  changed_back back =
      let all = split back in
      let rest : drop (i + 1) cur ≡ drop (i + 1) old = cc in
      drop-set-lt (i + 1) cur i b (omega arith) ∙ rest

pub replied_next : (f : Held → Held) (nodes : ℕ) (known : Option (List Decree)) (id : ℕ) (boxes : List (Box Waits)) (i : ℕ) (b : Box Waits) →
    i < length boxes → b ≡ get_or boxes i b → (before after : List Sent) (reply : Option Sent) → after ≡ before ++ option_to_list reply →
    option_map reply_given reply ≡ reply_with (f (in_box b)) (reply_of nodes known id (f (in_box b))) →
    map reply_given before ++ replies_to nodes known id (map f (boxed_in (drop i boxes))) ≡ replies_to nodes known id (map f (boxed_in boxes)) →
    map reply_given after ++ replies_to nodes known id (map f (boxed_in (drop (i + 1) boxes))) ≡ replies_to nodes known id (map f (boxed_in boxes))
replied_next f nodes known id boxes i b within is before after reply stored same so_far =
    let rest : List Reply = replies_to nodes known id (map f (boxed_in (drop (i + 1) boxes))) in
    let more : drop i boxes ≡ b ∷ drop (i + 1) boxes = drop_more boxes i b within ∙ ap (λ (c : Box Waits). c ∷ drop (i + 1) boxes) (sym is) in
    ap (λ (all : List Sent). map reply_given all ++ rest) stored
    ∙ replied_is before reply (f (in_box b)) (reply_of nodes known id (f (in_box b))) rest same
    ∙ sym (ap (λ (cs : List (Box Waits)). map reply_given before ++ replies_to nodes known id (map f (boxed_in cs))) more)
    ∙ so_far

-- ---- one is replaced

others_stay : (hs : List Held) (new : Held) → IsBelow (ticket_of new) hs → with_held hs new ≡ hs
others_stay [] new below = refl
others_stay (h ∷ hs) new below = at_test (ticket_of h == ticket_of new) refl (others_stay hs new below.1)
  where
    at_test : (same : Bool) → (ticket_of h == ticket_of new) ≡ same → with_held hs new ≡ hs → cond same new h ∷ with_held hs new ≡ h ∷ hs
    at_test true same rest = let equal = eqb-true (ticket_of h) (ticket_of new) same in let lower = below.0 in absurd (omega (arith, equal, lower))
    at_test false same rest = ap (λ (others : List Held). h ∷ others) rest

below_same : (one other : ℕ) (hs : List Held) → one ≡ other → IsBelow one hs → IsBelow other hs
below_same one other hs same below = subst (λ (k : ℕ). IsBelow k hs) same below

abbrev pub has_ticket : ℕ → Box Waits → Bool
has_ticket ticket b = ticket_of (in_box b) == ticket

pub put_at : (boxes : List (Box Waits)) (new : Box Waits) (i : ℕ) → Ascend (boxed_in boxes) → i < length boxes →
    has_ticket (ticket_of (in_box new)) (get_or boxes i new) ≡ true →
    ((k : ℕ) → k < i → has_ticket (ticket_of (in_box new)) (get_or boxes k new) ≡ false) →
    boxed_in (set boxes i new) ≡ with_held (boxed_in boxes) (in_box new)
put_at [] new i ascend within here before = absurd (omega arith)
put_at (b ∷ boxes) new zero ascend within here before =
    let same = eqb-true (ticket_of (in_box b)) (ticket_of (in_box new)) here in
    let rest = others_stay (boxed_in boxes) (in_box new) (below_same (ticket_of (in_box b)) (ticket_of (in_box new)) (boxed_in boxes) same ascend.0) in
    λ j. cond (sym here j) (in_box new) (in_box b) ∷ sym rest j
put_at (b ∷ boxes) new (suc i) ascend within here before =
    let first = before 0 (omega arith) in
    let rest = put_at boxes new i ascend.1 (omega arith) here (λ k below. before (suc k) (omega arith)) in
    λ j. cond (sym first j) (in_box new) (in_box b) ∷ rest j

none_passes : {X : Type 0} (p : X → Bool) (xs : List X) → position p xs ≡ None → length xs ≤ position_or_len p xs
none_passes p xs nowhere = at_test (nat_lt (position_or_len p xs) (length xs)) refl nowhere
  where
    at_test : (below : Bool) → nat_lt (position_or_len p xs) (length xs) ≡ below → cond below (Some (position_or_len p xs)) None ≡ None →
        length xs ≤ position_or_len p xs
    at_test true is none = absurd (cc)
    at_test false is none = ltb-false (position_or_len p xs) (length xs) is

all_stay : (boxes : List (Box Waits)) (new : Box Waits) →
    ((k : ℕ) → k < length boxes → has_ticket (ticket_of (in_box new)) (get_or boxes k new) ≡ false) →
    boxed_in boxes ≡ with_held (boxed_in boxes) (in_box new)
all_stay [] new differ = refl
all_stay (b ∷ boxes) new differ =
    let first = differ 0 (omega arith) in
    let rest = all_stay boxes new (λ k below. differ (suc k) (omega arith)) in
    λ j. cond (sym first j) (in_box new) (in_box b) ∷ rest j

pub put_nowhere : (boxes : List (Box Waits)) (new : Box Waits) → position (has_ticket (ticket_of (in_box new))) boxes ≡ None →
    boxed_in boxes ≡ with_held (boxed_in boxes) (in_box new)
put_nowhere boxes new nowhere =
    let test = has_ticket (ticket_of (in_box new)) in
    let past = none_passes test boxes nowhere in
    all_stay boxes new (λ k below. fails_before_first test boxes k new (omega (arith, below, past)))

-- ---- one of them passes

pub one_passes : (test : Held → Bool) (boxes : List (Box Waits)) (i : ℕ) (b : Box Waits) → i < length boxes → b ≡ get_or boxes i b → test (in_box b) ≡ true →
    list_any test (boxed_in boxes) ≡ true
one_passes test [] i b within is passes = absurd (omega arith)
one_passes test (first ∷ others) zero b within is passes =
    let here : test (in_box first) ≡ true = ap (λ (c : Box Waits). test (in_box c)) (sym is) ∙ passes in rw here refl
one_passes test (first ∷ others) (suc i) b within is passes = by_first (test (in_box first)) (one_passes test others i b (omega arith) is passes)
  where
    by_first : (here : Bool) → list_any test (boxed_in others) ≡ true → (here || list_any test (boxed_in others)) ≡ true
    by_first true later = refl
    by_first false later = later

-- and is kept by another test
pub one_kept : (keeps test : Held → Bool) (boxes : List (Box Waits)) (i : ℕ) (b : Box Waits) → i < length boxes → b ≡ get_or boxes i b →
    keeps (in_box b) ≡ true → test (in_box b) ≡ true →
    list_any test (filter keeps (boxed_in boxes)) ≡ true
one_kept keeps test [] i b within is kept passes = absurd (omega arith)
one_kept keeps test (first ∷ others) zero b within is kept passes =
    let stays : keeps (in_box first) ≡ true = ap (λ (c : Box Waits). keeps (in_box c)) (sym is) ∙ kept in
    let here : test (in_box first) ≡ true = ap (λ (c : Box Waits). test (in_box c)) (sym is) ∙ passes in
    rw (stays, here) refl
one_kept keeps test (first ∷ others) (suc i) b within is kept passes =
    by_first (keeps (in_box first)) (one_kept keeps test others i b (omega arith) is kept passes)
  where
    by_here : (is_here : Bool) → list_any test (filter keeps (boxed_in others)) ≡ true → (is_here || list_any test (filter keeps (boxed_in others))) ≡ true
    by_here true later = refl
    by_here false later = later

    by_first : (stays : Bool) → list_any test (filter keeps (boxed_in others)) ≡ true →
        list_any test (cond stays (in_box first ∷ filter keeps (boxed_in others)) (filter keeps (boxed_in others))) ≡ true
    by_first false later = later
    by_first true later = by_here (test (in_box first)) later

pub at_fault : {A E : Type 0} (P : Type 0) (result : Result A E) → P → OnErr result P
at_fault P (Ok value) is = tt
at_fault P (Err e) is = is
