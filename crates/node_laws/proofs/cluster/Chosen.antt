-- Each final state that a cluster of nodes by what they keep gives out was chosen, by votes that were sent.
use Rattle.std.proofs.Common.{◌≡◌, ℕ, List, [], ◌∷◌, ◌++◌, map, refl, sym, ap, subst, ◌∙◌}
use Rattle.std.proofs.lemmas.List.{map-append}
use Rattle.mc_model.specs.message.Decree.{Decree, Final}
use Rattle.mc_model.specs.synod.Lists.{In}
use Rattle.mc_model.specs.synod.OneSlot.{vote_at}
use Rattle.mc_model.specs.synod.Packet.{Packet, slot_of}
use Rattle.mc_model.specs.node.Act.{Act}
use Rattle.mc_model.specs.node.Knowledge.{IsLearned}
use Rattle.mc_model.specs.node.Outputs.{Outputs}
use Rattle.mc_model.specs.cluster.Fate.{TellsOf}
use Rattle.mc_model.specs.cluster.Steps.{AreSteps, Cluster, IsStep, Step, acts_in, by_node, setup_of}
use Rattle.mc_model.specs.cluster.World.{IsRun, World, after, reached, sent_by, start}
use Rattle.mc_parts.proofs.Membership.{in_right}
use Rattle.mc_laws.proofs.invariant.Answers.{runs_to}
use Rattle.mc_laws.proofs.step.Behind.{reached_on, run_on, steps_run}
use Rattle.mc_laws.proofs.invariant.Fated.{tells_known}
use Rattle.mc_laws.proofs.invariant.Growth.{nodes_same}
use Rattle.mc_laws.proofs.invariant.Reached.{Holds, holds}
use Rattle.mc_laws.proofs.invariant.Agreement.{learned_more}
use Rattle.node_laws.specs.Chosen.{WasVotedFor}
use Rattle.node_laws.specs.Clusters.{MayHappen, NodeInput, StatesFinal, kept_reached, outputs_at, world_at}
use Rattle.node_laws.proofs.cluster.Clustered.{clustered}
use Rattle.node_laws.proofs.cluster.Sources.{IsCutAt, IsStepOf, came_by, cut_at, step_of, told_by}

-- what was sent was sent
packets_still : (first : World) (acts : List (ℕ × Act)) (packet : Packet) → In packet first.packets → In packet (reached first acts).packets
packets_still first [] packet sent = sent
packets_still first (act ∷ acts) packet sent =
    in_right packet (sent_by (reached first acts) act.0 act.1) (reached first acts).packets (packets_still first acts packet sent)

pub none_mapped : (steps : List Step) → map came_by steps ≡ [] → steps ≡ []
none_mapped [] same = refl
none_mapped (step ∷ steps) same = absurd (cc)

module _ (cluster : Cluster) where
  abbrev first : World
  first = start cluster.nodes cluster.serials

  module _ (step : Step) (before : List Step) (is : IsStep (world_at cluster before) (setup_of cluster step.node) step.input step.acts)
      (are : AreSteps cluster first before) (act : Act) (cut : IsCutAt act step.acts) where
    -- the world in which the act is done
    abbrev here : World
    here = reached (world_at cluster before) (by_node step.node cut.older)

    runs_here : IsRun (world_at cluster before) ((step.node, act) ∷ by_node step.node cut.older)
    runs_here =
        runs_to (world_at cluster before) (by_node step.node cut.newer) ((step.node, act) ∷ by_node step.node cut.older)
        (subst (IsRun (world_at cluster before))
        (ap (by_node step.node) cut.split ∙ map-append (λ (a : Act). (step.node, a)) cut.newer (act ∷ cut.older)) is.run)

    holds_here : Holds here
    holds_here =
        subst Holds (reached_on first (by_node step.node cut.older) (acts_in before))
        (holds cluster.nodes cluster.serials (by_node step.node cut.older ++ acts_in before)
        (run_on first (by_node step.node cut.older) (acts_in before) runs_here.1 (steps_run cluster first before are)))

    nodes_here : here.nodes ≡ cluster.nodes
    nodes_here = nodes_same (world_at cluster before) (by_node step.node cut.older) ∙ nodes_same first (acts_in before)

    sent_here : (packet : Packet) → In packet here.packets → In packet (world_at cluster (step ∷ before)).packets
    sent_here packet sent =
        let whole : world_at cluster (step ∷ before) ≡ reached (after here step.node act) (by_node step.node cut.newer) =
        reached_on first (by_node step.node step.acts) (acts_in before)
        ∙ ap (λ (acts : List Act). reached (world_at cluster before) (by_node step.node acts)) cut.split
        ∙ ap (reached (world_at cluster before)) (map-append (λ (a : Act). (step.node, a)) cut.newer (act ∷ cut.older))
        ∙ reached_on (world_at cluster before) (by_node step.node cut.newer) ((step.node, act) ∷ by_node step.node cut.older) in
        subst (λ (w : World). In packet w.packets) (sym whole)
        (packets_still (after here step.node act) (by_node step.node cut.newer) packet (in_right packet (sent_by here step.node act) here.packets sent))

    voted_for : (id : ℕ) (chain : List Decree) → TellsOf act id chain → WasVotedFor cluster.nodes (world_at cluster (step ∷ before)).packets id chain
    voted_for id chain tells =
        let known = tells_known here step.node act runs_here.0 id chain tells in
        record {
          ballot = known.ballot;
          votes = learned_more cluster.nodes (here.actors step.node).received (world_at cluster (step ∷ before)).packets
              (slot_of id chain) (vote_at known.ballot chain)
              (λ packet received. sent_here packet (holds_here.keeps.received step.node packet received))
              (subst (λ (nodes : ℕ). IsLearned nodes (here.actors step.node).received (slot_of id chain) (vote_at known.ballot chain))
              nodes_here known.learned);
        }

  module _ (next : NodeInput) (inputs : List NodeInput) (may : MayHappen cluster (next ∷ inputs)) (id : ℕ) (final : Final)
      (says : StatesFinal (outputs_at cluster inputs next) id final) where
    by_step : (steps : List Step) (r : IsStepOf cluster steps [] next inputs) → WasVotedFor cluster.nodes (world_at cluster steps).packets id says.chain
    by_step steps r =
        let told = told_by _ r.step.acts (ap (λ (o : Outputs). o.replies) r.outputs_are) (ap (λ (o : Outputs). o.receipts) r.outputs_are) id final says in
        let only = r.split ∙ ap (λ (later : List Step). later ++ r.step ∷ r.before) (none_mapped r.later r.later_are) in
        subst (λ (ss : List Step). WasVotedFor cluster.nodes (world_at cluster ss).packets id says.chain) (sym only)
        (voted_for r.step r.before r.is r.are told.act (cut_at told.act r.step.acts told.among) id says.chain told.tells)

    pub given_out_was_chosen : WasVotedFor cluster.nodes (kept_reached cluster (next ∷ inputs)).packets id says.chain
    given_out_was_chosen =
        let run = clustered cluster (next ∷ inputs) may in
        subst (λ (packets : List Packet). WasVotedFor cluster.nodes packets id says.chain) (sym run.packets)
        (by_step run.steps (step_of cluster run.steps run.are [] next inputs run.inputs_are run.outputs))
