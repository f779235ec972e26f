-- A node that has stopped does nothing but start anew.
use Rattle.std.proofs.Common.{◌≡◌, ℕ, false, List, refl, sym, ◌∙◌, ap, subst, inl, inr, arith}
use Rattle.std.proofs.lemmas.Bool.{cases_eq, true≢false}
use Rattle.mc_model.specs.synod.Lists.{In}
use Rattle.mc_model.specs.node.Actor.{Actor}
use Rattle.mc_model.specs.node.Act.{Act, Stops, Restarts, IsUpFor}
use Rattle.mc_model.specs.node.Effect.{actor_by}
use Rattle.mc_model.specs.cluster.World.{World, Deed, May, after}
use Rattle.mc_model.specs.cluster.Fate.{deed_by}
use Rattle.mc_laws.proofs.invariant.Growth.{StartsAnew, later, actor_here, actor_apart}
use Rattle.mc_laws.proofs.invariant.Links.{Links}

-- an actor that stopped in its incarnation is down
abbrev pub StaysDown : List Deed → ℕ → Actor → Type 0
StaysDown past node a = In (deed_by (record { node = node; incarnation = a.incarnation }) Stops) past → a.up ≡ false

stopped_new : (node : ℕ) (a : Actor) (act : Act) → act ≡ Stops → (actor_by node a act).up ≡ false
stopped_new node a act is = subst (λ (x : Act). (actor_by node a x).up ≡ false) (sym is) refl

-- where a node is down, an act that leaves its incarnation as it is can't be done
not_done : (node : ℕ) (a : Actor) (act : Act) → IsUpFor a act → a.up ≡ false → (actor_by node a act).incarnation ≡ a.incarnation → ⊥
not_done node a (Restarts lost serial) may down same = omega (arith, same)
not_done node a act may down same = true≢false (sym may ∙ down)

pub only_anew : (a : Actor) (act : Act) → IsUpFor a act → a.up ≡ false → StartsAnew act
only_anew a (Restarts lost serial) may down = (lost, serial, refl)
only_anew a act may down = absurd (true≢false (sym may ∙ down))

down_by : (w : World) → Links w → (node : ℕ) → StaysDown w.past node (w.actors node) → (act : Act) → May w node act →
    StaysDown (after w node act).past node (actor_by node (w.actors node) act)
down_by w links node stays act may (inl new) = stopped_new node (w.actors node) act (ap (λ (d : Deed). d.act) (sym new))
down_by w links node stays act may (inr old) =
    let lived = links.lived _ old in
    let more = later node (w.actors node) act in
    let same : (actor_by node (w.actors node) act).incarnation ≡ (w.actors node).incarnation = omega (arith, lived, more) in
    let down = stays (subst (λ (i : ℕ). In (deed_by (record { node = node; incarnation = i }) Stops) w.past) same old) in
    absurd (not_done node (w.actors node) act may.up down same)

pub down_after : (w : World) → Links w → ((node : ℕ) → StaysDown w.past node (w.actors node)) → (node : ℕ) (act : Act) → May w node act →
    (other : ℕ) →
    StaysDown (after w node act).past other ((after w node act).actors other)
down_after w links stays node act may other = elim (cases_eq other node) [
  | inl here ↦ subst (λ (n : ℕ). StaysDown (after w node act).past n ((after w node act).actors n)) (sym here)
      (subst (StaysDown (after w node act).past node) (sym (actor_here w node act)) (down_by w links node (stays node) act may))
  | inr apart ↦ subst (StaysDown (after w node act).past other) (sym (actor_apart w node act other apart)) (λ is_in. elim is_in [
    | inl new ↦ absurd (apart (ap (λ (d : Deed). d.node) new))
    | inr old ↦ stays other old
  ])
]
