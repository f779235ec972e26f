-- Inputs behind others, and what of a cluster only grows with them.
use Rattle.std.proofs.Common.{◌≡◌, ℕ, List, [], ◌∷◌, ◌++◌, map, refl, sym, ◌∙◌, ap, subst, inr}
use Rattle.mc_model.specs.synod.Lists.{In}
use Rattle.mc_model.specs.synod.Packet.{Packet}
use Rattle.mc_model.specs.node.Act.{Act}
use Rattle.mc_model.specs.node.Input.{Input}
use Rattle.mc_model.specs.node.Outputs.{Outputs}
use Rattle.mc_model.specs.cluster.Steps.{Cluster, acts_in, by_node}
use Rattle.mc_model.specs.cluster.World.{IsRun, World, reached, start}
use Rattle.mc_laws.proofs.step.Behind.{reached_on}
use Rattle.mc_laws.proofs.invariant.Reached.{Holds}
use Rattle.node_laws.specs.Clusters.{MayHappen, NodeInput, cluster_outputs, kept_reached, world_at}
use Rattle.node_laws.proofs.cluster.Clustered.{clustered, one_more}
use Rattle.node_laws.proofs.cluster.GivenOut.{next_acts, next_run}
use Rattle.node_laws.proofs.invariant.Orders.{in_append}
use Rattle.world_fates.proofs.node.Decided.{IsDecided, decided_after}
use Rattle.world_fates.proofs.node.Replying.{Grows, holds_then}
use Rattle.world_fates.proofs.node.WellMade.{world, world_holds}

-- what came, the newest first, when these came behind it, the oldest first
abbrev pub behind : List NodeInput → List NodeInput → List NodeInput
behind [] past = past
behind (next ∷ others) past = behind others (next ∷ past)

pub behind_both : (first last past : List NodeInput) → behind (first ++ last) past ≡ behind last (behind first past)
behind_both [] last past = refl
behind_both (next ∷ first) last past = behind_both first last (next ∷ past)

-- what came last, behind what came first
pub behind_then : (first last past middle later : List NodeInput) → middle ≡ behind first past → later ≡ behind last middle →
    later ≡ behind (first ++ last) past
behind_then first last past middle later first_is last_is = last_is ∙ ap (behind last) first_is ∙ sym (behind_both first last past)

-- ---- what comes to one node

abbrev pub input_to : ℕ → Input → NodeInput
input_to node input = record { node = node; input = input }

abbrev pub came_to : ℕ → List Input → List NodeInput → List NodeInput
came_to node inputs past = behind (map (input_to node) inputs) past

-- ---- what grows

module _ (cluster : Cluster) where
  -- what was given out and sent is so later
  pub given_later : (inputs past : List NodeInput) (outputs : Outputs) → In outputs (cluster_outputs cluster past) →
      In outputs (cluster_outputs cluster (behind inputs past))
  given_later [] past outputs among = among
  given_later (next ∷ inputs) past outputs among = given_later inputs (next ∷ past) outputs (inr among)

  pub sent_later : (inputs past : List NodeInput) (packet : Packet) → In packet (kept_reached cluster past).packets →
      In packet (kept_reached cluster (behind inputs past)).packets
  sent_later [] past packet among = among
  sent_later (next ∷ inputs) past packet among = sent_later inputs (next ∷ past) packet (in_append packet _ _ (inr among))

  -- what may happen might happen before
  pub happened_before : (inputs past : List NodeInput) → MayHappen cluster (behind inputs past) → MayHappen cluster past
  happened_before [] past may = may
  happened_before (next ∷ inputs) past may = (happened_before inputs (next ∷ past) may).4

  -- where it stands in the model
  abbrev pub world_after : (past : List NodeInput) → MayHappen cluster past → World
  world_after past may = world cluster past (clustered cluster past may)

  pub after_holds : (past : List NodeInput) (may : MayHappen cluster past) → Holds (world_after past may)
  after_holds past may = world_holds cluster past (clustered cluster past may)

  module _ (next : NodeInput) (past : List NodeInput) (may : MayHappen cluster (next ∷ past)) where
    pub next_world : world_after (next ∷ past) may ≡ reached (world_after past may.4) (by_node next.node (next_acts cluster next past may))
    next_world =
        ap (world_at cluster) (one_more cluster next past may).steps
        ∙ reached_on (start cluster.nodes cluster.serials) (by_node next.node (next_acts cluster next past may)) (acts_in (clustered cluster past may.4).steps)

-- what is decided at a node stays so, whichever node acts
decided_by_acts : (by : ℕ) (w : World) → Holds w → (acts : List Act) → IsRun w (by_node by acts) → Grows w (reached w (by_node by acts))
decided_by_acts by w h [] run node id final is = is
decided_by_acts by w h (newest ∷ older) run node id final is =
    decided_after node (reached w (by_node by older)) (holds_then by w h older run.1) by newest run.0 id final
    (decided_by_acts by w h older run.1 node id final is)

pub decided_next : (cluster : Cluster) (next : NodeInput) (past : List NodeInput) (may : MayHappen cluster (next ∷ past)) →
    Grows (world_after cluster past may.4) (world_after cluster (next ∷ past) may)
decided_next cluster next past may node id final is =
    subst (λ (w : World). IsDecided node w id final) (sym (next_world cluster next past may))
    (decided_by_acts next.node (world_after cluster past may.4) (after_holds cluster past may.4) (next_acts cluster next past may)
    (next_run cluster next past may) node id final is)
