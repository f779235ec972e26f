-- Each final state that a cluster of nodes by what they keep gives out was chosen, by votes that were sent before the step that gives it out.
use Rattle.std.proofs.Common.{◌≡◌, ℕ, List, [], ◌∷◌, ◌++◌, sym, ap, subst, ◌∙◌, inl, inr}
use Rattle.std.proofs.lemmas.List.{map-append}
use Rattle.mc_model.specs.message.Decree.{Decree, Final}
use Rattle.mc_model.specs.synod.Lists.{In}
use Rattle.mc_model.specs.synod.OneSlot.{vote_at}
use Rattle.mc_model.specs.synod.Packet.{Packet, slot_of}
use Rattle.mc_model.specs.node.Act.{Act, Receives, Restarts}
use Rattle.mc_model.specs.node.Actor.{Actor}
use Rattle.mc_model.specs.node.Effect.{actor_by}
use Rattle.mc_model.specs.node.Knowledge.{IsLearned}
use Rattle.mc_model.specs.node.Outputs.{Outputs}
use Rattle.mc_model.specs.cluster.Fate.{TellsOf}
use Rattle.mc_model.specs.cluster.Steps.{AreSteps, Cluster, IsStep, Step, acts_in, by_node, setup_of}
use Rattle.mc_model.specs.cluster.World.{IsRun, World, reached, start}
use Rattle.mc_laws.proofs.invariant.Answers.{runs_to}
use Rattle.mc_laws.proofs.step.Behind.{steps_run}
use Rattle.mc_laws.proofs.invariant.Fated.{tells_known}
use Rattle.mc_laws.proofs.invariant.Growth.{changed_here, nodes_same}
use Rattle.mc_laws.proofs.invariant.Reached.{Holds, holds}
use Rattle.mc_laws.proofs.invariant.Agreement.{learned_more}
use Rattle.node_laws.specs.Chosen.{WasVotedFor}
use Rattle.node_laws.specs.Clusters.{MayHappen, NodeInput, StatesFinal, kept_reached, outputs_at, world_at}
use Rattle.node_laws.proofs.cluster.Chosen.{none_mapped}
use Rattle.node_laws.proofs.cluster.Clustered.{clustered, one_more}
use Rattle.node_laws.proofs.cluster.Sources.{IsCutAt, IsStepOf, cut_at, in_older, step_of, told_by}
use Rattle.mc_laws.proofs.step.Receiving.{came_by_input, exact_receives}

rest_same : (step other : Step) (steps others : List Step) → step ∷ steps ≡ other ∷ others → steps ≡ others
rest_same step other steps others same = cc

-- an act receives its packet, and nothing else
received_then : (node : ℕ) (a : Actor) (act : Act) (packet : Packet) (P : Type 0) → (In packet a.received → P) → (Receives packet ≡ act → P) →
    In packet (actor_by node a act).received → P
received_then node a (Receives other) packet P old new (inl same) = new (ap Receives same)
received_then node a (Receives other) packet P old new (inr before) = old before
received_then node a (Restarts lost serial) packet P old new none = absurd none
received_then node a act packet P old new among = old among

-- what a node has received by acts was received before, or by one of them
received_by : (w : World) (node : ℕ) (acts : List Act) (packet : Packet) (P : Type 0) → (In packet (w.actors node).received → P) →
    (In (Receives packet) acts → P) → In packet ((reached w (by_node node acts)).actors node).received → P
received_by w node [] packet P old new among = old among
received_by w node (act ∷ acts) packet P old new among =
    let here = reached w (by_node node acts) in
    received_then node (here.actors node) act packet P (received_by w node acts packet P old (λ later. new (inr later))) (λ same. new (inl same))
    (subst (λ (a : Actor). In packet a.received) (changed_here here.actors node (actor_by node (here.actors node) act)) among)

module _ (cluster : Cluster) where
  abbrev first : World
  first = start cluster.nodes cluster.serials

  module _ (step : Step) (before : List Step) (is : IsStep (world_at cluster before) (setup_of cluster step.node) step.input step.acts)
      (are : AreSteps cluster first before) (act : Act) (cut : IsCutAt act step.acts) where
    -- the world in which the act is done
    abbrev here : World
    here = reached (world_at cluster before) (by_node step.node cut.older)

    runs_here : IsRun (world_at cluster before) ((step.node, act) ∷ by_node step.node cut.older)
    runs_here =
        runs_to (world_at cluster before) (by_node step.node cut.newer) ((step.node, act) ∷ by_node step.node cut.older)
        (subst (IsRun (world_at cluster before))
        (ap (by_node step.node) cut.split ∙ map-append (λ (a : Act). (step.node, a)) cut.newer (act ∷ cut.older)) is.run)

    holds_before : Holds (world_at cluster before)
    holds_before = holds cluster.nodes cluster.serials (acts_in before) (steps_run cluster first before are)

    nodes_here : here.nodes ≡ cluster.nodes
    nodes_here = nodes_same (world_at cluster before) (by_node step.node cut.older) ∙ nodes_same first (acts_in before)

    sent_before : (packet : Packet) → In packet (here.actors step.node).received → In packet (world_at cluster before).packets
    sent_before packet received =
        received_by (world_at cluster before) step.node cut.older packet (In packet (world_at cluster before).packets)
        (holds_before.keeps.received step.node packet)
        (λ among. came_by_input (world_at cluster before) step.input packet is.came
        (exact_receives (setup_of cluster step.node) ((world_at cluster before).actors step.node) ((world_at cluster before).records step.node)
        step.input step.acts is.exact packet
        (subst (In (Receives packet)) (sym cut.split) (in_older cut.newer act cut.older (Receives packet) among))))
        received

    voted_for : (id : ℕ) (chain : List Decree) → TellsOf act id chain → WasVotedFor cluster.nodes (world_at cluster before).packets id chain
    voted_for id chain tells =
        let known = tells_known here step.node act runs_here.0 id chain tells in
        record {
          ballot = known.ballot;
          votes = learned_more cluster.nodes (here.actors step.node).received (world_at cluster before).packets
              (slot_of id chain) (vote_at known.ballot chain) sent_before
              (subst (λ (nodes : ℕ). IsLearned nodes (here.actors step.node).received (slot_of id chain) (vote_at known.ballot chain))
              nodes_here known.learned);
        }

  module _ (next : NodeInput) (inputs : List NodeInput) (may : MayHappen cluster (next ∷ inputs)) (id : ℕ) (final : Final)
      (says : StatesFinal (outputs_at cluster inputs next) id final) where
    by_step : (steps : List Step) (r : IsStepOf cluster steps [] next inputs) → WasVotedFor cluster.nodes (world_at cluster r.before).packets id says.chain
    by_step steps r =
        let told = told_by _ r.step.acts (ap (λ (o : Outputs). o.replies) r.outputs_are) (ap (λ (o : Outputs). o.receipts) r.outputs_are) id final says in
        voted_for r.step r.before r.is r.are told.act (cut_at told.act r.step.acts told.among) id says.chain told.tells

    pub chosen_before : WasVotedFor cluster.nodes (kept_reached cluster inputs).packets id says.chain
    chosen_before =
        let run = clustered cluster (next ∷ inputs) may in
        let older = clustered cluster inputs may.4 in
        let r = step_of cluster run.steps run.are [] next inputs run.inputs_are run.outputs in
        let more = one_more cluster next inputs may in
        let only = r.split ∙ ap (λ (later : List Step). later ++ r.step ∷ r.before) (none_mapped r.later r.later_are) in
        let rest = rest_same r.step _ r.before older.steps (sym only ∙ more.steps) in
        subst (λ (packets : List Packet). WasVotedFor cluster.nodes packets id says.chain)
        (ap (λ (steps : List Step). (world_at cluster steps).packets) rest ∙ sym older.packets) (by_step run.steps r)
