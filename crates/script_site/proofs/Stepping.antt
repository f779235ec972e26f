-- The world takes a step of the node that does something.
use Rattle.std.proofs.Common.{◌≡◌, ℕ, suc, Bool, true, false, List, [], ◌∷◌, ◌++◌, length, Option, Some, None, Ok, Err, refl, sym, ap, subst, ◌∙◌}
use Rattle.std.proofs.Common.{inl, inr, arith, append_assoc, ◌<◌, zero}
use Rattle.std.specs.Prelude.{reverse, slice_get, if◌then◌else◌}
use Rattle.std.proofs.lemmas.Bool.{true≢false}
use Rattle.std.proofs.lemmas.List.{reverse-append}
use Rattle.mc_model.specs.node.Input.{Grant, Input, Response, Tick}
use Rattle.mc_model.specs.node.Actor.{opening_clock}
use Rattle.mc_model.specs.node.Reach.{Reach, of_all}
use Rattle.mc_model.specs.cluster.Steps.{Cluster}
use Rattle.mc_laws.proofs.invariant.Growth.{changed_cases, changed_here}
use Rattle.node_model.specs.Granted.{known_slot}
use Rattle.node_model.specs.Kept.{Kept}
use Rattle.node_model.specs.Outputs.{Stepped}
use Rattle.node_model.specs.Stepped.{stepped}
use Rattle.node_laws.specs.Clusters.{KeptCluster, NodeInput, comes_to, kept_reached, step_at as cluster_step}
use Rattle.desk.specs.Arrivals.{requested}
use Rattle.desk.specs.declared.request.Request.{Request}
use Rattle.delivery.specs.Kept.{outcome_kept}
use Rattle.delivery.specs.Targets.{is_up as is_account_up}
use Rattle.delivery.specs.declared.outcome.Outcome.{Outcome}
use Rattle.sim_net.specs.Network.{numbered}
use Rattle.world.specs.Reach.{Reach as ReachGiven}
use Rattle.world.specs.Reaching.{reach_of}
use Rattle.world.specs.Runs.{Comes, IsAt, IsGiven, Leads, LosesNone, StandsAs, leaves_up}
use Rattle.world.specs.Taking.{node_at}
use Rattle.world.specs.Scenes.{Placed, Scene, clock_in, clock_of, is_up, is_up_in}
use Rattle.world.specs.declared.fault.WorldFault.{WorldFault}
use Rattle.world.specs.declared.given.Given.{Given}
use Rattle.world.specs.Step.{Step}
use Rattle.world.specs.Step.TheVariants as steps
use Rattle.world.proofs.Leading.{stands_up}
use Rattle.script_text.specs.Node.{Node, request_at, step_at, tick_at, with_step}
use Rattle.script_text.specs.Runner.{Runner}
use Rattle.script_text.specs.Runs.{IsNodeOf}
use Rattle.script_text.specs.World.{World}
use Rattle.script_site.specs.Sites.{IsAmong, IsGoing, StandsStill, Takes}

-- ---- what can be asked of a node that is up

module _ (cluster : Cluster) (inputs : List NodeInput) (scene : Scene) (at : IsAt cluster [] inputs scene) (home : ℕ) where
  abbrev kept : Kept
  kept = (kept_reached cluster inputs).kept home

  -- what a node keeps that is up in the world
  pub kept_up : is_up_in scene home ≡ true → kept.up ≡ true
  kept_up there = by_member (numbered scene.members home) refl there
    where
      by_member : (found : Option Placed) → numbered scene.members home ≡ found → is_up found ≡ true → kept.up ≡ true
      by_member None none up = absurd (true≢false (sym up))
      by_member (Some m) found up = stands_up kept m.up m (at.members home m found).stands ∙ up

  pub clock_kept : is_up_in scene home ≡ true → clock_in scene home ≡ kept.clock
  clock_kept there = by_member (numbered scene.members home) refl there
    where
      by_up : (m : Placed) (b : Bool) → m.up ≡ b → StandsAs kept b m.node → m.up ≡ true → clock_of (Some m) ≡ kept.clock
      by_up m true is stands up = ap (λ (b : Bool). if b then m.node.kept.clock else opening_clock) is ∙ ap (λ (k : Kept). k.clock) stands
      by_up m false is stands up = absurd (true≢false (sym up ∙ is))

      by_member : (found : Option Placed) → numbered scene.members home ≡ found → is_up found ≡ true → clock_of found ≡ kept.clock
      by_member None none up = absurd (true≢false (sym up))
      by_member (Some m) found up = by_up m m.up refl (at.members home m found).stands up

  -- another world at the same place of the run has the same nodes up
  pub still_up : (new : Scene) → IsAt cluster [] inputs new → is_up_in scene home ≡ true → is_up_in new home ≡ true
  still_up new after there = by_number home refl there
    where
      within : (members : List Placed) (place : ℕ) → is_up (slice_get members place) ≡ true → place < length members
      within [] zero up = absurd (true≢false (sym up))
      within [] (suc place) up = absurd (true≢false (sym up))
      within (m ∷ members) zero up = omega arith
      within (m ∷ members) (suc place) up = omega (arith, within members place up)

      found_in : (members : List Placed) (place : ℕ) → place < length members → (m : Placed) × (slice_get members place ≡ Some m)
      found_in [] place inside = absurd (omega (arith, inside))
      found_in (m ∷ members) zero inside = (m, refl)
      found_in (m ∷ members) (suc place) inside = found_in members place (omega (arith, inside))

      by_number : (number : ℕ) → number ≡ home → is_up_in scene home ≡ true → is_up_in new home ≡ true
      by_number zero is up = absurd (true≢false (sym (ap (is_up_in scene) is ∙ up)))
      by_number (suc place) is up =
          let inside = within scene.members place (ap (is_up_in scene) is ∙ up) in
          let count = at.nodes in
          let also = after.nodes in
          let found = found_in new.members place (omega (arith, inside, count, also)) in
          let there = ap (numbered new.members) (sym is) ∙ found.1 in
          let stands = stands_up kept found.0.up found.0 (after.members home found.0 there).stands in
          ap is_up there ∙ sym stands ∙ kept_up up

-- a step that is refused is not taken
pub stands_still : (old new : Scene) (step : Step) (fault : WorldFault) → Leads old step (Err fault) new → StandsStill old new
stands_still old new step fault leads cluster behind inputs at = (leads.each cluster behind inputs at).at

-- ---- a step that is taken

module _ (home : ℕ) (scene : Scene) (w : World) (node : Node) (among : IsAmong home scene w node) where
  abbrev now : KeptCluster
  now = kept_reached among.cluster among.inputs

  module _ (step : Step) (given : Given) (new : Scene) (input : Input) (leads : Leads scene step (Ok given) new)
      (is_it : (next : NodeInput) → Comes among.cluster 0 now step next → LosesNone step next → next ≡ comes_to home input) where
    abbrev own : Stepped
    own = step_at node input

    abbrev next : NodeInput
    next = comes_to home input

    same : cluster_step among.cluster now next ≡ own
    same = λ i. stepped (sym among.one.setup i) (sym among.one.kept i) input

    packets_then : reverse (cluster_step among.cluster now next).outputs.packets ++ now.packets ≡ reverse (w.packets ++ (node.packets ++ own.outputs.packets))
    packets_then =
        (λ i. reverse (same i).outputs.packets ++ among.packets i)
        ∙ sym (reverse-append (w.packets ++ node.packets) own.outputs.packets)
        ∙ ap reverse (append_assoc w.packets node.packets own.outputs.packets)

    others_then : (place : ℕ) (runner : Runner) → slice_get w.runners place ≡ Some runner → (suc place ≡ home → ⊥) →
        IsNodeOf among.cluster (next ∷ among.inputs) (suc place) runner.node
    others_then place runner found apart =
        let other = among.others place runner found apart in
        record {
          setup = other.setup;
          kept = elim (changed_cases now.kept home (cluster_step among.cluster now next).kept (suc place)) [
            | inl here ↦ absurd (apart here.0)
            | inr elsewhere ↦ other.kept ∙ sym elsewhere
          ];
        }

    pub goes : IsAmong home new w (with_step node own) × IsGiven given own.outputs
    goes =
        let on = leads.each among.cluster [] among.inputs among.at in
        let it = is_it on.next on.comes on.loses in (
          record {
            cluster = among.cluster;
            inputs = next ∷ among.inputs;
            at = subst (λ (n : NodeInput). IsAt among.cluster [] (n ∷ among.inputs) new) it on.at;
            count = among.count;
            one = record {
              setup = among.one.setup;
              kept = ap (λ (s : Stepped). s.kept) (sym same)
                  ∙ sym (changed_here now.kept home (cluster_step among.cluster now next).kept);
            };
            others = others_then;
            packets = packets_then;
          },
          subst (λ (s : Stepped). IsGiven given s.outputs) same
              (subst (λ (n : NodeInput). IsGiven given (cluster_step among.cluster now n).outputs) it on.gives),
        )

-- ---- a node that is up

module _ (home : ℕ) (scene : Scene) (w : World) (node : Node) (going : IsGoing home scene w node) where
  abbrev among : IsAmong home scene w node
  among = going.among

  pub node_up : node.kept.up ≡ true
  node_up = ap (λ (k : Kept). k.up) among.one.kept ∙ kept_up among.cluster among.inputs scene among.at home going.up

  pub clock_is : clock_in scene home ≡ node.kept.clock
  clock_is = clock_kept among.cluster among.inputs scene among.at home going.up ∙ ap (λ (k : Kept). k.clock) (sym among.one.kept)

  -- a step that is not taken
  pub stays : (step : Step) (fault : WorldFault) (new : Scene) → Leads scene step (Err fault) new → IsGoing home new w node
  stays step fault new leads =
      let on = leads.each among.cluster [] among.inputs among.at in
      record {
        among = record {
          cluster = among.cluster;
          inputs = among.inputs;
          at = on.at;
          count = among.count;
          one = among.one;
          others = among.others;
          packets = among.packets;
        };
        up = still_up among.cluster among.inputs scene among.at home new on.at going.up;
      }

  -- what a step leaves, and gives out
  abbrev Steps : Scene → Given → Input → Type 0
  Steps new given input = IsGoing home new w (with_step node (step_at node input)) × IsGiven given (step_at node input).outputs

  taken : (step : Step) (given : Given) (new : Scene) (input : Input) → Takes scene step given new → node_at step ≡ home → leaves_up step ≡ true →
      ((next : NodeInput) → Comes among.cluster 0 (kept_reached among.cluster among.inputs) step next → next ≡ comes_to home input) → Steps new given input
  taken step given new input takes there stays_up is_it =
      let went = goes home scene w node among step given new input takes.leads (λ next comes loses. is_it next comes) in
      (record { among = went.0; up = ap (is_up_in new) (sym there) ∙ takes.up ∙ stays_up }, went.1)

  -- ---- inputs of each kind

  pub request_goes : (account : List ℕ) (request : Request) (given : Given) (new : Scene) → Takes scene (steps.Request home account request) given new →
      Steps new given (request_at node account request)
  request_goes account request given new takes =
      taken (steps.Request home account request) given new (request_at node account request) takes refl refl
      (λ next comes. comes ∙ (λ i. comes_to home (requested (sym among.one.setup i) (sym among.one.kept i) account request)))

  pub tick_goes : (moment : ℕ) (reach : ReachGiven) (accounts : List (List ℕ)) (given : Given) (new : Scene) →
      reach_of reach ≡ of_all (is_account_up accounts) → Takes scene (steps.Tick home moment reach) given new → Steps new given (tick_at moment accounts)
  tick_goes moment reach accounts given new same takes =
      taken (steps.Tick home moment reach) given new (tick_at moment accounts) takes refl refl
      (λ next comes. comes ∙ ap (λ (r : Reach). comes_to home (Tick moment r)) same)

  pub grant_goes : (id : ℕ) (given : Given) (new : Scene) → Takes scene (steps.Grant home id) given new → Steps new given (Grant (known_slot node.kept id))
  grant_goes id given new takes =
      taken (steps.Grant home id) given new (Grant (known_slot node.kept id)) takes refl refl
      (λ next comes. comes ∙ (λ i. comes_to home (Grant (known_slot (sym among.one.kept i) id))))

  pub answer_goes : (slot : _) (outcome : Outcome) (given : Given) (new : Scene) → Takes scene (steps.Answered home slot outcome) given new →
      Steps new given (Response slot (outcome_kept outcome))
  answer_goes slot outcome given new takes =
      taken (steps.Answered home slot outcome) given new (Response slot (outcome_kept outcome)) takes refl refl (λ next comes. comes)
