-- The requests that wait stay in their order.
use Rattle.std.proofs.Common.{◌≡◌, ℕ, suc, ◌<◌, ◌≤◌, ◌++◌, Bool, true, false, cond, List, [], ◌∷◌, length, map, Some, refl, sym, ap, subst, arith}
use Rattle.std.specs.Prelude.{◌==◌, filter, if◌then◌else◌}
use Rattle.std.proofs.lemmas.Bool.{eqb-true}
use Rattle.mc_model.specs.message.Decree.{Decree}
use Rattle.node_model.specs.Kept.{Held}
use Rattle.node_model.specs.Requests.{id_of, settles, ticket_of}
use Rattle.node_model.specs.Packets.{settled_for}
use Rattle.node_model.proofs.Ascending.{ascend_kept}
use Rattle.std.proofs.lemmas.List.{length-append, length-map}
use Rattle.mc_model.specs.node.Room.{most_waiting}
use Rattle.waiting_requests.specs.Waiting.{Waits, held_in, held_of}
use Rattle.node_model.specs.Requests.{Ascend, IsBelow}
use Rattle.waiting_requests.specs.Queues.{IsAbove, IsQueue}

below_pushed : (ticket : ℕ) (waits : List Waits) (w : Waits) → IsBelow ticket (held_in waits) → ticket < w.waiting.ticket →
    IsBelow ticket (held_in (waits ++ w ∷ []))
below_pushed ticket [] w below lower = (lower, tt)
below_pushed ticket (first ∷ others) w below lower = (below.0, below_pushed ticket others w below.1 lower)

ascend_pushed : (waits : List Waits) (w : Waits) → Ascend (held_in waits) → IsAbove (held_in waits) w.waiting.ticket → Ascend (held_in (waits ++ w ∷ []))
ascend_pushed [] w ascend above = (tt, tt)
ascend_pushed (first ∷ others) w ascend above =
    (below_pushed first.waiting.ticket others w ascend.0 above.0, ascend_pushed others w ascend.1 above.1)

pub queue_pushed : (before after : ℕ) (waits : List Waits) (w : Waits) → before ≤ after → length waits < most_waiting →
    IsAbove (held_in waits) w.waiting.ticket → IsQueue before waits →
    IsQueue after (waits ++ w ∷ [])
queue_pushed before after waits w more few above is = record {
  room = let room = is.room in omega (arith, room, more);
  few = let count = length-append waits (w ∷ []) in omega (arith, count, few);
  ascend = ascend_pushed waits w is.ascend above;
}

-- ---- some are taken away

fewer_kept : (test : Held → Bool) (hs : List Held) → length (filter test hs) ≤ length hs
fewer_kept test [] = omega arith
fewer_kept test (h ∷ hs) = at_test (test h) (fewer_kept test hs)
  where
    at_test : (pass : Bool) → length (filter test hs) ≤ length hs → length (cond pass (h ∷ filter test hs) (filter test hs)) ≤ suc (length hs)
    at_test true rest = omega arith
    at_test false rest = omega arith

pub queue_kept : (test : Held → Bool) (before after : ℕ) (old new : List Waits) → after ≡ before → held_in new ≡ filter test (held_in old) →
    IsQueue before old →
    IsQueue after new
queue_kept test before after old new more kept is =
    let fewer = fewer_kept test (held_in old) in
    let count : length (held_in new) ≡ length (filter test (held_in old)) = ap (λ (hs : List Held). length hs) kept in
    let mine = length-map new held_of in
    let was = length-map old held_of in
    let few = is.few in
    let room = is.room in
    record {
      room = omega (arith, room, more);
      few = omega (arith, fewer, count, mine, was, few);
      ascend = subst (λ (hs : List Held). Ascend hs) (sym kept) (ascend_kept test (held_in old) is.ascend);
    }

-- ---- some are changed, and keep their tickets

module _ (f : Held → Held) (same : (h : Held) → ticket_of (f h) ≡ ticket_of h) where
  below_changed : (one other : ℕ) (hs : List Held) → other ≡ one → IsBelow one hs → IsBelow other (map f hs)
  below_changed one other [] is below = tt
  below_changed one other (h ∷ hs) is below = (
    let lower = below.0 in let mine = same h in omega (arith, lower, mine, is),
    below_changed one other hs is below.1,
  )

  ascend_changed : (hs : List Held) → Ascend hs → Ascend (map f hs)
  ascend_changed [] ascend = tt
  ascend_changed (h ∷ hs) ascend = (below_changed (ticket_of h) (ticket_of (f h)) hs (same h) ascend.0, ascend_changed hs ascend.1)

  pub queue_changed : (before after : ℕ) (old new : List Waits) → after ≡ before → held_in new ≡ map f (held_in old) → IsQueue before old → IsQueue after new
  queue_changed before after old new more changed is =
      let count : length (held_in new) ≡ length (map f (held_in old)) = ap (λ (hs : List Held). length hs) changed in
      let mine = length-map new held_of in
      let was = length-map old held_of in
      let all = length-map (held_in old) f in
      let few = is.few in
      let room = is.room in
      record {
        room = omega (arith, room, more);
        few = omega (arith, count, mine, was, all, few);
        ascend = subst (λ (hs : List Held). Ascend hs) (sym changed) (ascend_changed (held_in old) is.ascend);
      }

pub settled_ticket : (nodes id : ℕ) (chain : List Decree) (h : Held) → ticket_of (settled_for nodes id chain h) ≡ ticket_of h
settled_ticket nodes id chain h = at_test (id_of h == id) (settles nodes (Some chain) h)
  where
    at_test : (about now : Bool) → ticket_of (cond about (cond now (record h { waiting = record h.waiting { settled = true } }) h) h) ≡ ticket_of h
    at_test true true = refl
    at_test true false = refl
    at_test false now = refl

pub replaced_ticket : (new h : Held) → ticket_of (if ticket_of h == ticket_of new then new else h) ≡ ticket_of h
replaced_ticket new h = at_test (ticket_of h == ticket_of new) refl
  where
    at_test : (same : Bool) → (ticket_of h == ticket_of new) ≡ same → ticket_of (cond same new h) ≡ ticket_of h
    at_test true same = sym (eqb-true (ticket_of h) (ticket_of new) same)
    at_test false same = refl
