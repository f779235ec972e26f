-- A node has no more requests waiting than it has room for.
use Rattle.std.proofs.Common.{◌≡◌, ℕ, suc, ◌≤◌, Bool, true, false, List, [], ◌∷◌, ◌++◌, length, map, filter, refl, sym, ap, subst, inl, inr, arith}
use Rattle.std.specs.Prelude.{cond, ◌==◌, not}
use Rattle.mc_model.specs.node.Actor.{Actor, Waiting}
use Rattle.mc_model.specs.node.Room.{most_waiting}
use Rattle.mc_model.specs.node.Act.{Act, Begins, Settles, Replies, Restarts}
use Rattle.mc_model.specs.node.Effect.{actor_by, settle}
use Rattle.mc_model.specs.cluster.World.{World, May, after}
use Rattle.mc_parts.proofs.Requests.{not_busy}
use Rattle.mc_laws.proofs.invariant.Growth.{actors_after}

abbrev pub HasRoom : Actor → Type 0
HasRoom a = length a.waiting ≤ most_waiting

one_more : (xs : List Waiting) (x : Waiting) → length (xs ++ x ∷ []) ≡ suc (length xs)
one_more [] x = refl
one_more (y ∷ xs) x = ap suc (one_more xs x)

as_many : (f : Waiting → Waiting) (xs : List Waiting) → length (map f xs) ≡ length xs
as_many f [] = refl
as_many f (x ∷ xs) = ap suc (as_many f xs)

no_more : (test : Waiting → Bool) (xs : List Waiting) → length (filter test xs) ≤ length xs
no_more test [] = omega arith
no_more test (x ∷ xs) = by_test (test x) (no_more test xs)
  where
    by_test : (b : Bool) → length (filter test xs) ≤ length xs → length (cond b (x ∷ filter test xs) (filter test xs)) ≤ suc (length xs)
    by_test true most = omega (arith, most)
    by_test false most = omega (arith, most)

room_by : (w : World) (node : ℕ) (act : Act) → May w node act → HasRoom (w.actors node) → HasRoom (actor_by node (w.actors node) act)
room_by w node (Begins ticket request) may room =
    let below = not_busy (length (w.actors node).waiting) (w.actors node).ticket may.needs.room in
    omega (
      arith,
      below,
      one_more (w.actors node).waiting
          (record { ticket = (w.actors node).ticket; since = (w.actors node).clock; request = request; settled = false }),
    )
room_by w node (Settles ticket) may room = omega (arith, room, as_many (settle ticket) (w.actors node).waiting)
room_by w node (Replies ticket id answer) may room =
    let most = no_more (λ (x : Waiting). not (x.ticket == ticket)) (w.actors node).waiting in omega (arith, room, most)
room_by w node (Restarts lost serial) may room = omega arith
room_by w node act may room = room

pub room_after : (w : World) (node : ℕ) (act : Act) → May w node act → ((other : ℕ) → HasRoom (w.actors other)) → (other : ℕ) →
    HasRoom ((after w node act).actors other)
room_after w node act may rooms other = elim (actors_after w node act other) [
  | inl here ↦ subst HasRoom (sym here.actor_is) (room_by w node act may (rooms node))
  | inr elsewhere ↦ subst HasRoom (sym elsewhere) (rooms other)
]
