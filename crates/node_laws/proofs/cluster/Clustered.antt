-- A cluster of nodes by what they keep runs as one of the model.
use Rattle.std.proofs.Common.{◌≡◌, ℕ, Bool, true, false, List, [], ◌∷◌, ◌++◌, refl, sym, ap, subst, ◌∙◌, eqb-true}
use Rattle.std.specs.Prelude.{◌==◌, reverse, if◌then◌else◌}
use Rattle.std.proofs.lemmas.List.{reverse-reverse}
use Rattle.mc_model.specs.synod.Lists.{In}
use Rattle.mc_model.specs.synod.Packet.{Packet}
use Rattle.mc_model.specs.node.Act.{Act}
use Rattle.mc_model.specs.node.Alone.{Node, opened_new as node_new, reached_alone}
use Rattle.mc_model.specs.node.Input.{Arrival, Crash, Delivery, Grant, Input, Refusal, Response, Restart, Tick}
use Rattle.mc_model.specs.node.Outputs.{Outputs, outputs_of, packets_in}
use Rattle.mc_model.specs.cluster.Assembly.{acts_of}
use Rattle.mc_model.specs.cluster.Steps.{CameTo, Cluster, Step, acts_in, by_node, setup_of}
use Rattle.mc_model.specs.cluster.World.{World, after, reached, start}
use Rattle.mc_laws.proofs.step.Assembly.{acts_on, alone_on, passed_by, step_together}
use Rattle.mc_laws.proofs.step.Behind.{packets_so, reached_on, steps_run}
use Rattle.mc_laws.proofs.step.Together.{alone, flipped}
use Rattle.node_laws.specs.Clusters.{MayHappen, NodeInput, RunsTogether, WasSentBefore, kept_reached, step_at, world_at}
use Rattle.node_laws.specs.Stands.{Stands}
use Rattle.node_laws.specs.Steps.{StepsAs}
use Rattle.node_laws.proofs.step.Opening.{new_stands}
use Rattle.node_laws.proofs.step.WholeSteps.{whole_steps}

module _ (cluster : Cluster) where
  abbrev alone_at : ℕ → List (ℕ × Act) → Node
  alone_at node acts = reached_alone node (node_new (cluster.serials node)) (acts_of node acts)

  came : (w : World) (packets : List Packet) → packets ≡ w.packets → (input : Input) → WasSentBefore packets input → CameTo w input
  came w packets same (Delivery packet) sent = subst (In packet) same sent
  came w packets same (Crash packet after) sent = subst (In packet) same sent
  came w packets same (Arrival request) sent = tt
  came w packets same (Refusal status) sent = tt
  came w packets same (Tick moment reach) sent = tt
  came w packets same (Grant slot) sent = tt
  came w packets same (Response slot outcome) sent = tt
  came w packets same (Restart lost) sent = tt

  module _ (inputs : List NodeInput) (before : RunsTogether cluster inputs) (next : NodeInput)
      (step : StepsAs (setup_of cluster next.node) (alone_at next.node (acts_in before.steps)) next.input
      (step_at cluster (kept_reached cluster inputs) next)) where
    abbrev taken : Step
    taken = record { node = next.node; input = next.input; acts = step.acts }

    abbrev w : World
    w = world_at cluster before.steps

    abbrev Own : Node
    Own = alone_at next.node (acts_in before.steps)

    actor_is : w.actors next.node ≡ Own.actor
    actor_is = (alone cluster.nodes cluster.serials (acts_in before.steps) next.node
        (steps_run cluster (start cluster.nodes cluster.serials) before.steps before.are)).actor

    records_are : w.records next.node ≡ Own.records
    records_are = (alone cluster.nodes cluster.serials (acts_in before.steps) next.node
        (steps_run cluster (start cluster.nodes cluster.serials) before.steps before.are)).records

    -- ---- what each node keeps stands for its actor

    stands_here : Stands (setup_of cluster next.node) (step_at cluster (kept_reached cluster inputs) next).kept
        (alone_at next.node (by_node next.node step.acts ++ acts_in before.steps))
    stands_here = subst (Stands (setup_of cluster next.node) (step_at cluster (kept_reached cluster inputs) next).kept)
        (sym (alone_on next.node (node_new (cluster.serials next.node)) step.acts (acts_of next.node (acts_in before.steps)))
        ∙ ap (reached_alone next.node (node_new (cluster.serials next.node))) (sym (acts_on next.node step.acts (acts_in before.steps))))
        step.stands

    stands_then : (node : ℕ) →
        Stands (setup_of cluster node) ((kept_reached cluster (next ∷ inputs)).kept node) (alone_at node (by_node next.node step.acts ++ acts_in before.steps))
    stands_then node = by_node_test (node == next.node) refl
      where
        apart : (node == next.node) ≡ false → (next.node == node) ≡ false
        apart differs = flipped node next.node differs

        by_node_test : (test : Bool) → (node == next.node) ≡ test →
            Stands (setup_of cluster node) (if test then (step_at cluster (kept_reached cluster inputs) next).kept else (kept_reached cluster inputs).kept node)
            (alone_at node (by_node next.node step.acts ++ acts_in before.steps))
        by_node_test true same =
            subst (λ (n : ℕ). Stands (setup_of cluster n) (step_at cluster (kept_reached cluster inputs) next).kept
            (alone_at n (by_node next.node step.acts ++ acts_in before.steps)))
            (sym (eqb-true node next.node same))
            stands_here
        by_node_test false differs =
            subst (λ (acts : List Act). Stands (setup_of cluster node) ((kept_reached cluster inputs).kept node)
            (reached_alone node (node_new (cluster.serials node)) acts))
            (sym (passed_by next.node node step.acts (acts_in before.steps) (apart differs)))
            (before.stands node)

    -- ---- what is sent

    outputs_are : (step_at cluster (kept_reached cluster inputs) next).outputs ≡ outputs_of next.node (w.actors next.node)
        (w.records next.node) next.input step.acts
    outputs_are = step.outputs ∙ (λ i. outputs_of next.node (sym actor_is i) (sym records_are i) next.input step.acts)

    packets_then : (kept_reached cluster (next ∷ inputs)).packets ≡
        (reached (start cluster.nodes cluster.serials) (by_node next.node step.acts ++ acts_in before.steps)).packets
    packets_then =
        (λ i. reverse (ap (λ (o : Outputs). o.packets) outputs_are i) ++ before.packets i)
        ∙ ap (λ (ps : List Packet). ps ++ w.packets) (reverse-reverse (packets_in next.node (w.actors next.node) (w.records next.node) step.acts))
        ∙ sym (packets_so w next.node step.acts)
        ∙ ap (λ (x : World). x.packets) (sym (reached_on (start cluster.nodes cluster.serials) (by_node next.node step.acts) (acts_in before.steps)))

    goes_on : WasSentBefore (kept_reached cluster inputs).packets next.input → RunsTogether cluster (next ∷ inputs)
    goes_on sent = record {
      steps = taken ∷ before.steps;
      inputs_are = λ i. next ∷ before.inputs_are i;
      are = (
        step_together cluster (acts_in before.steps) next.node next.input step.acts
            (steps_run cluster (start cluster.nodes cluster.serials) before.steps before.are) step.taken
            (came w (kept_reached cluster inputs).packets before.packets next.input sent),
        before.are,
      );
      packets = packets_then;
      outputs = λ i. outputs_are i ∷ before.outputs i;
      stands = stands_then;
    }

  pub clustered : (inputs : List NodeInput) → MayHappen cluster inputs → RunsTogether cluster inputs
  clustered [] may = record {
    steps = [];
    inputs_are = refl;
    are = tt;
    packets = refl;
    outputs = refl;
    stands = λ node. new_stands (setup_of cluster node);
  }
  clustered (next ∷ inputs) may =
      let before = clustered inputs may.4 in
      let step = whole_steps (setup_of cluster next.node) may.0 ((kept_reached cluster inputs).kept next.node)
      (alone_at next.node (acts_in before.steps)) (before.stands next.node) next.input may.1 may.2 in
      goes_on inputs before next step may.3

  -- with one input more it takes one step more
  pub record OneMore (next : NodeInput) (inputs : List NodeInput) (may : MayHappen cluster (next ∷ inputs)) : Type 0 where
    pub acts : List Act
    pub steps : (clustered (next ∷ inputs) may).steps ≡ record { node = next.node; input = next.input; acts = acts } ∷ (clustered inputs may.4).steps

  pub one_more : (next : NodeInput) (inputs : List NodeInput) (may : MayHappen cluster (next ∷ inputs)) → OneMore next inputs may
  unfolding clustered goes_on
  one_more next inputs may =
      let before = clustered inputs may.4 in
      let step = whole_steps (setup_of cluster next.node) may.0 ((kept_reached cluster inputs).kept next.node)
      (alone_at next.node (acts_in before.steps)) (before.stands next.node) next.input may.1 may.2 in
      record { acts = step.acts; steps = refl }
