-- Steps of a cluster.
use Rattle.std.specs.Prelude.{ℕ, List, [], ◌∷◌, ◌++◌, map}
use Rattle.mc_model.specs.synod.Lists.{In}
use Rattle.mc_model.specs.node.Setup.{Setup}
use Rattle.mc_model.specs.node.Act.{Act}
use Rattle.mc_model.specs.node.Input.{Crash, Delivery, Input}
use Rattle.mc_model.specs.node.Step.{IsExact}
use Rattle.mc_model.specs.cluster.World.{IsRun, World, reached, start}

-- the same for all nodes
pub record Cluster : Type 0 where
  pub nodes : ℕ
  pub serials : ℕ → ℕ
  pub validities : ℕ → ℕ

abbrev pub setup_of : Cluster → ℕ → Setup
setup_of cluster node = record {
  node = node;
  nodes = cluster.nodes;
  first_serial = cluster.serials node;
  default_validity = cluster.validities node;
}

abbrev pub by_node : ℕ → List Act → List (ℕ × Act)
by_node node acts = map (λ act. (node, act)) acts

-- in a cluster a packet that comes was sent
abbrev pub CameTo : World → Input → Type 0
CameTo w (Delivery packet) = In packet w.packets
CameTo w (Crash packet after) = In packet w.packets
CameTo w input = Unit {0}

-- and each act may be done where it stands
pub record IsStep (w : World) (setup : Setup) (input : Input) (acts : List Act) : Type 0 where
  pub run : IsRun w (by_node setup.node acts)
  pub came : CameTo w input
  pub exact : IsExact setup (w.actors setup.node) (w.records setup.node) input acts

pub record Step : Type 0 where
  pub node : ℕ
  pub input : Input
  pub acts : List Act

abbrev pub acts_in : List Step → List (ℕ × Act)
acts_in [] = []
acts_in (newest ∷ older) = by_node newest.node newest.acts ++ acts_in older

abbrev pub AreSteps : Cluster → World → List Step → Type 0
AreSteps cluster first [] = Unit {0}
AreSteps cluster first (newest ∷ older) =
    IsStep (reached first (acts_in older)) (setup_of cluster newest.node) newest.input newest.acts × AreSteps cluster first older

-- every list of steps of a cluster that starts with new stores
pub record StepRun : Type 0 where
  pub cluster : Cluster
  pub steps : List Step
  pub are : AreSteps cluster (start cluster.nodes cluster.serials) steps

abbrev pub world_after : StepRun → World
world_after run = reached (start run.cluster.nodes run.cluster.serials) (acts_in run.steps)
