-- The lives of a node over acts and steps: its incarnation stays, but where it starts anew.
use Rattle.std.proofs.Common.{◌≡◌, ℕ, suc, ◌+◌, ◌<◌, ◌≤◌, List, [], ◌∷◌, ◌++◌, map, refl, sym, ap, subst, ◌∙◌, inl, inr, arith}
use Rattle.std.proofs.lemmas.List.{map-append}
use Rattle.mc_model.specs.synod.Lists.{In}
use Rattle.mc_model.specs.node.Act.{Act, Restarts}
use Rattle.mc_model.specs.node.Actor.{Actor}
use Rattle.mc_model.specs.node.Core.{IsCore}
use Rattle.mc_model.specs.node.Effect.{actor_by}
use Rattle.mc_model.specs.node.Input.{Input, Restart}
use Rattle.mc_model.specs.cluster.Steps.{AreSteps, Cluster, IsStep, Step, acts_in, by_node, setup_of}
use Rattle.mc_model.specs.cluster.World.{World, after, reached, start}
use Rattle.mc_laws.proofs.invariant.Growth.{actor_here, actors_after, later, remembers}
use Rattle.mc_laws.proofs.step.Behind.{reached_on}
use Rattle.node_laws.specs.Clusters.{LivesOn, NodeInput, comes_to, world_at}
use Rattle.node_laws.proofs.cluster.Sources.{came_by, input_of}

life_of : (node : ℕ) (a : Actor) (act : Act) → ((lost serial : ℕ) → act ≡ Restarts lost serial → ⊥) → (actor_by node a act).incarnation ≡ a.incarnation
life_of node a act none = elim (remembers node a act) [ inl anew ↦ absurd (none anew.0 anew.1 anew.2) | inr r ↦ r.incarnation ]

abbrev pub life_in : ℕ → World → ℕ
life_in node w = (w.actors node).incarnation

life_then : (w : World) (by : ℕ) (act : Act) (node : ℕ) → (by ≡ node → (lost serial : ℕ) → act ≡ Restarts lost serial → ⊥) →
    life_in node (after w by act) ≡ life_in node w
life_then w by act node none = elim (actors_after w by act node) [
  | inl here ↦
      ap (λ (a : Actor). a.incarnation) here.actor_is
      ∙ life_of by (w.actors by) act (none (sym here.node_is))
      ∙ ap (λ (n : ℕ). life_in n w) (sym here.node_is)
  | inr elsewhere ↦ ap (λ (a : Actor). a.incarnation) elsewhere
]

-- acts leave a node its incarnation, if it does not start anew by them
pub life_by : (w : World) (by : ℕ) (acts : List Act) (node : ℕ) → (by ≡ node → (lost serial : ℕ) → In (Restarts lost serial) acts → ⊥) →
    life_in node (reached w (by_node by acts)) ≡ life_in node w
life_by w by [] node none = refl
life_by w by (act ∷ acts) node none = life_then (reached w (by_node by acts)) by act node (λ same lost serial is. none same lost serial (inl (sym is)))
    ∙ life_by w by acts node (λ same lost serial among. none same lost serial (inr among))

-- it never falls
rises_by : (w : World) (by : ℕ) (act : Act) (node : ℕ) → life_in node w ≤ life_in node (after w by act)
rises_by w by act node = elim (actors_after w by act node) [
  | inl here ↦
      subst (λ (a : Actor). life_in node w ≤ a.incarnation) (sym here.actor_is)
      (subst (λ (n : ℕ). life_in n w ≤ (actor_by by (w.actors by) act).incarnation) (sym here.node_is) (later by (w.actors by) act))
  | inr elsewhere ↦ subst (λ (a : Actor). life_in node w ≤ a.incarnation) (sym elsewhere) (omega arith)
]

rises_by_all : (w : World) (acts : List (ℕ × Act)) (node : ℕ) → life_in node w ≤ life_in node (reached w acts)
rises_by_all w [] node = omega arith
rises_by_all w (act ∷ acts) node = let before = rises_by_all w acts node in let now = rises_by (reached w acts) act.0 act.1 node in omega (arith, before, now)

-- and a start raises it
rises_anew : (w : World) (node : ℕ) (front : List Act) (lost serial : ℕ) →
    life_in node w < life_in node (reached w (by_node node (front ++ Restarts lost serial ∷ [])))
rises_anew w node front lost serial =
    let anew : life_in node (after w node (Restarts lost serial)) ≡ suc (life_in node w + lost) =
    ap (λ (a : Actor). a.incarnation) (actor_here w node (Restarts lost serial)) in
    let on = rises_by_all (after w node (Restarts lost serial)) (by_node node front) node in
    let same : reached w (by_node node (front ++ Restarts lost serial ∷ [])) ≡ reached (after w node (Restarts lost serial)) (by_node node front) =
    ap (reached w) (map-append (λ (act : Act). (node, act)) front (Restarts lost serial ∷ []))
    ∙ reached_on w (by_node node front) ((node, Restarts lost serial) ∷ []) in
    subst (λ (v : World). life_in node w < life_in node v) (sym same) (omega (arith, anew, on))

module _ (cluster : Cluster) where
  abbrev first : World
  first = start cluster.nodes cluster.serials

  pub life_along : (node : ℕ) (later before : List Step) → AreSteps cluster first (later ++ before) → LivesOn node (map came_by later) →
      life_in node (world_at cluster (later ++ before)) ≡ life_in node (world_at cluster before)
  life_along node [] before are none = refl
  life_along node (step ∷ later) before are none =
      ap (life_in node) (reached_on first (by_node step.node step.acts) (acts_in (later ++ before)))
      ∙ life_by (world_at cluster (later ++ before)) step.node step.acts node (λ same lost serial among.
      let anew : step.input ≡ Restart lost = input_of cluster step (later ++ before) are.0 (Restarts lost serial) among in
      none lost (inl (λ i. comes_to (sym same i) (sym anew i))))
      ∙ life_along node later before are.1 (λ lost among. none lost (inr among))

  -- in the midst of a step
  pub life_within : (node : ℕ) (step : Step) (before : List Step) → IsStep (world_at cluster before) (setup_of cluster step.node) step.input step.acts →
      ((lost : ℕ) → step.input ≡ Restart lost → ⊥) → (rest : List Act) → ((act : Act) → In act rest → In act step.acts) →
      life_in node (reached first (by_node step.node rest ++ acts_in before)) ≡ life_in node (world_at cluster before)
  life_within node step before is none rest parts =
      ap (life_in node) (reached_on first (by_node step.node rest) (acts_in before))
      ∙ life_by (world_at cluster before) step.node rest node (λ same lost serial among.
      none lost (input_of cluster step before is (Restarts lost serial) (parts (Restarts lost serial) among)))

  -- over steps it never falls, and rises as the node starts anew
  rises_along : (node : ℕ) (later before : List Step) → life_in node (world_at cluster before) ≤ life_in node (world_at cluster (later ++ before))
  rises_along node [] before = omega arith
  rises_along node (step ∷ later) before =
      let rest = rises_along node later before in
      let now = rises_by_all (world_at cluster (later ++ before)) (by_node step.node step.acts) node in
      subst (λ (w : World). life_in node (world_at cluster before) ≤ life_in node w)
      (sym (reached_on first (by_node step.node step.acts) (acts_in (later ++ before))))
      (omega (arith, rest, now))

  rises_at : (step : Step) (before : List Step) → IsStep (world_at cluster before) (setup_of cluster step.node) step.input step.acts →
      (lost : ℕ) → step.input ≡ Restart lost → life_in step.node (world_at cluster before) < life_in step.node (world_at cluster (step ∷ before))
  rises_at step before is lost anew =
      subst (λ (w : World). life_in step.node (world_at cluster before) < life_in step.node w)
      (sym (reached_on first (by_node step.node step.acts) (acts_in before)))
      (subst (λ (acts : List Act). life_in step.node (world_at cluster before) < life_in step.node (reached (world_at cluster before) (by_node step.node acts)))
      (sym (is.exact.acts_are ∙ ap (λ (core : List Act). front ++ core) core_is))
      (rises_anew (world_at cluster before) step.node front lost (cluster.serials step.node)))
    where
      front : List Act
      front = is.exact.reports ++ is.exact.replies ++ is.exact.proposes ++ is.exact.prepares ++ is.exact.abandons ++ is.exact.asks
          ++ is.exact.late ++ is.exact.settles

      core_is : is.exact.core ≡ Restarts lost (cluster.serials step.node) ∷ []
      core_is = subst (λ (input : Input). IsCore (setup_of cluster step.node) ((world_at cluster before).actors step.node)
          ((world_at cluster before).records step.node) input is.exact.core) anew is.exact.core_is

  rises : (node : ℕ) (later before : List Step) → AreSteps cluster first (later ++ before) →
      (lost : ℕ) → In (comes_to node (Restart lost)) (map came_by later) →
      life_in node (world_at cluster before) < life_in node (world_at cluster (later ++ before))
  rises node [] before are lost none = absurd none
  rises node (step ∷ later) before are lost (inl same) =
      let here : step.node ≡ node = ap (λ (x : NodeInput). x.node) (sym same) in
      let anew : step.input ≡ Restart lost = ap (λ (x : NodeInput). x.input) (sym same) in
      let rest = rises_along node later before in
      let now = subst (λ (n : ℕ). life_in n (world_at cluster (later ++ before)) < life_in n (world_at cluster (step ∷ later ++ before))) here
      (rises_at step (later ++ before) are.0 lost anew) in
      omega (arith, rest, now)
  rises node (step ∷ later) before are lost (inr among) =
      let rest = rises node later before are.1 lost among in
      let now = rises_along node (step ∷ []) (later ++ before) in
      omega (arith, rest, now)

  -- in one incarnation a node does not start anew
  pub lives_on : (node : ℕ) (later before : List Step) → AreSteps cluster first (later ++ before) →
      life_in node (world_at cluster (later ++ before)) ≡ life_in node (world_at cluster before) → LivesOn node (map came_by later)
  lives_on node later before are same lost among = let rose = rises node later before are lost among in omega (arith, same, rose)
