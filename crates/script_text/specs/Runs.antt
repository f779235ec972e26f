-- Where the world of a script stands in a run of the model's cluster (own).
use Rattle.std.specs.Prelude.{◌≡◌, ℕ, suc, List, length, reverse, slice_get, Some}
use Rattle.mc_model.specs.cluster.Steps.{Cluster, setup_of}
use Rattle.node_laws.specs.Clusters.{NodeInput, kept_reached}
use Rattle.script_text.specs.Node.{Node}
use Rattle.script_text.specs.Runner.{Runner}
use Rattle.script_text.specs.World.{World}

-- after these inputs, the newest first, the node of a number keeps what a node of a script keeps, and is set up alike
pub record IsNodeOf (cluster : Cluster) (inputs : List NodeInput) (number : ℕ) (node : Node) : Type 0 where
  pub setup : node.setup ≡ setup_of cluster number
  pub kept : node.kept ≡ (kept_reached cluster inputs).kept number

-- so is each node of the world, and the packets that were sent are its packets
pub record StandsFor (cluster : Cluster) (inputs : List NodeInput) (world : World) : Type 0 where
  pub count : length world.runners ≡ cluster.nodes
  pub each : (place : ℕ) (runner : Runner) → slice_get world.runners place ≡ Some runner → IsNodeOf cluster inputs (suc place) runner.node
  pub packets : (kept_reached cluster inputs).packets ≡ reverse world.packets
