-- Packets come that are due, one after another.
use Rattle.std.proofs.Common.{◌≡◌, ℕ, zero, suc, ◌+◌, ◌<◌, ◌≤◌, Bool, true, false, List, [], ◌∷◌, ◌++◌, find, length, Option, Some}
use Rattle.std.proofs.Common.{None, Result, Ok, Err, refl, sym, ap, ◌∙◌, inl, inr, eq-or-lt_of_le, arith}
use Rattle.std.specs.Prelude.{◌&&◌, ◌==◌, OnOk, not, pred, slice_get, if◌then◌else◌}
use Rattle.std.specs.List.{range_with_len}
use Rattle.std.specs.declared.alloc.AllocError.{AllocError}
use Rattle.std.proofs.lemmas.List.{append-nil, length-set}
use Rattle.std.proofs.lemmas.Bool.{or_right}
use Rattle.mc_model.specs.synod.Packet.{Packet}
use Rattle.node_model.specs.Stepped.{sender_of}
use Rattle.script_text.specs.Left.{followed_by, rests}
use Rattle.script_text.specs.Prints.{unsettled_line}
use Rattle.script_text.specs.Runner.{Runner, on_delivery}
use Rattle.script_text.specs.World.{Due as WorldDue, Moved, World, comes, comes_if, due, due_among, due_at, due_first, is_down, is_up_at}
use Rattle.script_text.specs.World.{lacks, marked, node_numbers, on_settle, packet_of, refuses, runner_at, settles, shared}
use Rattle.script_text.specs.World.{takes_part, unsettled, up_or_refuses}
use Rattle.script_runner.specs.Centres.{Does, IsMoved, IsWorld, KeepsUp, NothingBefore, due_of}
use Rattle.script_runner.specs.declared.centre.Centre.{Centre}
use Rattle.script_runner.specs.declared.centre.Due.{Due}
use Rattle.script_runner.proofs.Following.{IsLeft, all_done, last_done, one_done}
use Rattle.script_runner.proofs.Moving.{some_same}
use Rattle.script_runner.proofs.Searching.{none_of_fewer}

-- ---- the first that is due is the first

module _ (w : World) (nodes : List ℕ) where
  abbrev to : ℕ → Option ℕ
  to number = due_at w nodes number (packet_of w.packets number)

  none_before : (start count : ℕ) (next : WorldDue) → due_among w nodes (range_with_len start count) ≡ Some next → (n : ℕ) → start ≤ n →
      n < next.number →
      to n ≡ None
  unfolding due_among
  none_before start zero next is n from below = absurd cc
  none_before start (suc count) next is n from below = by_first (λ rest more. none_before (start + 1) count next rest n more below) (to start) refl is
    where
      by_first : (due_among w nodes (range_with_len (start + 1) count) ≡ Some next → start + 1 ≤ n → to n ≡ None) → (found : Option ℕ) → to start ≡ found →
          due_first start found (due_among w nodes (range_with_len (start + 1) count)) ≡ Some next → to n ≡ None
      by_first others (Some node) here is =
          let same : start ≡ next.number = ap (λ (d : WorldDue). d.number) (some_same is) in
          absurd (omega (arith, same, from, below))
      by_first others None here is = elim (eq-or-lt_of_le {n = start} {m = n} from) [
        | inl same ↦ ap to (sym same) ∙ here
        | inr before ↦ others is (omega (arith, before))
      ]

  pub due_before : (next : WorldDue) → due w nodes ≡ Some next → NothingBefore w nodes next.number
  due_before next is zero below = refl
  due_before next is (suc n) below = none_before 1 (length w.packets) next is (suc n) (omega arith) below

  among_within : (start count : ℕ) (next : WorldDue) → due_among w nodes (range_with_len start count) ≡ Some next →
      (start ≤ next.number) × (next.number < start + count)
  unfolding due_among
  among_within start zero next is = absurd cc
  among_within start (suc count) next is = by_first (λ rest. among_within (start + 1) count next rest) (to start) is
    where
      by_first : (due_among w nodes (range_with_len (start + 1) count) ≡ Some next → (start + 1 ≤ next.number) ×
          (next.number < (start + 1) + count)) → (found : Option ℕ) →
          due_first start found (due_among w nodes (range_with_len (start + 1) count)) ≡ Some next → (start ≤ next.number) × (next.number < start + suc count)
      by_first others (Some node) is = let same : start ≡ next.number = ap (λ (d : WorldDue). d.number) (some_same is) in
          (omega (arith, same), omega (arith, same))
      by_first others None is = let rest = others is in (omega (arith, rest.0), omega (arith, rest.1))

  pub due_within : (next : WorldDue) → due w nodes ≡ Some next → next.number < suc (length w.packets)
  due_within next is = omega (arith, (among_within 1 (length w.packets) next is).1)

-- ---- what comes to a node leaves nothing more due below

-- what came has come, and what was sent has been sent
record HasGrown (w next : World) : Type 0 where
  nodes : length next.runners ≡ length w.runners
  came : (number node : ℕ) → w.came number node ≡ true → next.came number node ≡ true
  more : List Packet
  packets : next.packets ≡ w.packets ++ more

still : (w : World) → HasGrown w w
still w = record { nodes = refl; came = λ number node is. is; more = []; packets = sym (append-nil w.packets) }

came_grows : (w : World) (number node : ℕ) → HasGrown w (comes w number node).next
came_grows w number node = by_packet (packet_of w.packets number)
  where
    by_up : (packet : Packet) (runner : Runner) (up : Bool) →
        HasGrown w (if up then shared (marked w number node) node (on_delivery runner packet) else refuses w is_down).next
    by_up packet runner true = record {
      nodes = length-set w.runners (pred node) _;
      came = λ n m is. or_right (n == number && m == node) (w.came n m) is;
      more = (on_delivery runner packet).next.node.packets;
      packets = refl;
    }
    by_up packet runner false = still w

    by_runner : (packet : Packet) (found : Option Runner) →
        HasGrown w (up_or_refuses w (λ runner. shared (marked w number node) node (on_delivery runner packet)) found).next
    by_runner packet None = still w
    by_runner packet (Some runner) = by_up packet runner runner.node.kept.up

    by_packet : (found : Option Packet) → HasGrown w (comes_if w number node found).next
    by_packet None = still w
    by_packet (Some packet) = by_runner packet (runner_at w node)

-- as many nodes are there
pub nodes_stay : (w : World) (number node : ℕ) → length (comes w number node).next.runners ≡ length w.runners
nodes_stay w number node = (came_grows w number node).nodes

in_front : (ps more : List Packet) (n : ℕ) → n < suc (length ps) → packet_of (ps ++ more) n ≡ packet_of ps n
in_front ps more zero below = refl
in_front ps more (suc k) below = at_place ps k (omega (arith, below))
  where
    at_place : (qs : List Packet) (k : ℕ) → k < length qs → slice_get (qs ++ more) k ≡ slice_get qs k
    at_place [] k below = absurd (omega (arith, below))
    at_place (q ∷ qs) zero below = refl
    at_place (q ∷ qs) (suc k) below = at_place qs k (omega (arith, below))

fewer_lack : (part up before now : Bool) → (before ≡ true → now ≡ true) → ((part && up) && not before) ≡ false → ((part && up) && not now) ≡ false
fewer_lack false up before now more none = refl
fewer_lack true false before now more none = refl
fewer_lack true true true now more none = ap not (more refl)
fewer_lack true true false now more none = absurd cc

pub nothing_more : (old : Centre) (w : World) (nodes : List ℕ) (number node : ℕ) → IsWorld old w → KeepsUp old number node →
    number < suc (length w.packets) → NothingBefore w nodes number → NothingBefore (comes w number node).next nodes number
nothing_more old w nodes number node was up within none n below = by_packet (packet_of w.packets n) refl
  where
    next : World
    next = (comes w number node).next

    grown : HasGrown w next
    grown = came_grows w number node

    packet_same : packet_of next.packets n ≡ packet_of w.packets n
    packet_same = ap (λ (ps : List Packet). packet_of ps n) grown.packets ∙ in_front w.packets grown.more n (omega (arith, below, within))

    up_same : (m : ℕ) → is_up_at (runner_at w m) ≡ is_up_at (runner_at next m)
    up_same m = sym (up w was m)

    weaker : (m : ℕ) → lacks w nodes n m ≡ false → lacks next nodes n m ≡ false
    weaker m fails =
        ap (λ (b : Bool). (takes_part nodes m && b) && not (next.came n m)) (sym (up_same m))
        ∙ fewer_lack (takes_part nodes m) (is_up_at (runner_at w m)) (w.came n m) (next.came n m) (grown.came n m) fails

    by_part : (packet : Packet) (part : Bool) → (if part then find (lacks w nodes n) (node_numbers w) else None) ≡ None →
        (if part then find (lacks next nodes n) (node_numbers next) else None) ≡ None
    by_part packet false nobody = refl
    by_part packet true nobody =
        ap (λ (count : ℕ). find (lacks next nodes n) (range_with_len 1 count)) grown.nodes
        ∙ none_of_fewer (lacks w nodes n) (lacks next nodes n) (node_numbers w) weaker nobody

    by_packet : (found : Option Packet) → packet_of w.packets n ≡ found → due_at next nodes n (packet_of next.packets n) ≡ None
    by_packet None is_so = ap (due_at next nodes n) (packet_same ∙ is_so)
    by_packet (Some packet) is_so =
        ap (due_at next nodes n) (packet_same ∙ is_so)
        ∙ by_part packet (takes_part nodes (sender_of packet)) (sym (ap (due_at w nodes n) is_so) ∙ none n below)

-- ---- a settle

-- what is still to be done, and no packet below this number is due
pub record IsUnderWay (all : Moved) (most : ℕ) (nodes : List ℕ) (number : ℕ) (now : Centre) (before text : List ℕ) : Type 0 where
  pub left : IsLeft all (settles most nodes) now before text
  pub below : NothingBefore left.world nodes number

settle_next : (most more : ℕ) (nodes : List ℕ) (w : World) (next : WorldDue) → most ≡ suc more → due w nodes ≡ Some next →
    settles most nodes w ≡ followed_by (comes w next.number next.node) (settles more nodes (comes w next.number next.node).next)
unfolding settles
settle_next most more nodes w next is found = rw (is, found) refl

settle_ends : (most more : ℕ) (nodes : List ℕ) (w : World) → most ≡ suc more → due w nodes ≡ None → settles most nodes w ≡ rests w
unfolding settles
settle_ends most more nodes w is none = rw (is, none) refl

settle_stops : (most : ℕ) (nodes : List ℕ) (w : World) → most ≡ zero → settles most nodes w ≡ unsettled w
unfolding settles
settle_stops most nodes w is = rw is refl

pub begins : (old : Centre) (w : World) (most from : ℕ) (nodes : List ℕ) (before : List ℕ) → IsWorld old w → NothingBefore w nodes from →
    IsUnderWay (settles most nodes w) most nodes from old before before
begins old w most from nodes before is none = record { left = record { world = w; is = is; next = refl; written = refl }; below = none }

-- a packet came that was due
pub one_came : (all : Moved) (most more : ℕ) (nodes : List ℕ) (from : ℕ) (now new : Centre) (found : Due) (before text after : List ℕ)
    (way : IsUnderWay all most nodes from now before text) →
    most ≡ suc more → Some (due_of found) ≡ due way.left.world nodes → IsMoved (comes way.left.world found.number found.node) new text after →
    KeepsUp now found.number found.node → IsUnderWay all more nodes found.number new before after
unfolding one_done
one_came all most more nodes from now new found before text after way is due_is moved up =
    let w = way.left.world in
    let next = due_of found in
    record {
      left = one_done all (settles most nodes) (settles more nodes) (λ (v : World). comes v found.number found.node) now new before text after way.left
          (settle_next most more nodes w next is (sym due_is)) moved;
      below = nothing_more now w nodes found.number found.node way.left.is up (due_within w nodes next (sym due_is))
          (due_before w nodes next (sym due_is));
    }

pub nothing_left : (all : Moved) (most more : ℕ) (nodes : List ℕ) (from : ℕ) (now : Centre) (before text : List ℕ)
    (way : IsUnderWay all most nodes from now before text) →
    most ≡ suc more → None ≡ due way.left.world nodes → IsMoved all now before text
nothing_left all most more nodes from now before text way is none =
    all_done all (settles most nodes) now before text way.left (settle_ends most more nodes way.left.world is (sym none))

pub stopped_there : (all : Moved) (most : ℕ) (nodes : List ℕ) (from : ℕ) (now : Centre) (before text after : List ℕ)
    (way : IsUnderWay all most nodes from now before text) →
    most ≡ zero → after ≡ text ++ unsettled_line → IsMoved all now before after
stopped_there all most nodes from now before text after way is wrote =
    last_done all (unsettled way.left.world) (settles most nodes) now now before text after way.left (settle_stops most nodes way.left.world is)
    (record { next = way.left.is; text = wrote ∙ ap (λ (t : List ℕ). text ++ t) (sym (append-nil unsettled_line)) })

pub stopped_if : (r : Result (Unit {0}) AllocError) (old now : Centre) (most : ℕ) (nodes : List ℕ) (from : ℕ) (before text after : List ℕ) →
    ((w : World) → IsWorld old w → IsUnderWay (on_settle w nodes) most nodes from now before text) → most ≡ zero → OnOk r (after ≡ text ++ unsettled_line) →
    OnOk r (Does (λ w. on_settle w nodes) old now before after)
stopped_if (Err fault) old now most nodes from before text after way is wrote = tt
stopped_if (Ok done) old now most nodes from before text after way is wrote =
    λ w world. stopped_there (on_settle w nodes) most nodes from now before text after (way w world) is wrote
