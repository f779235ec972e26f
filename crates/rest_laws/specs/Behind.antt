-- The run of a cluster whose nodes forget nothing, that stands behind what happens to one whose nodes do (own).
use Rattle.std.specs.Prelude.{◌≡◌, ℕ, List, [], ◌∷◌, ◌++◌, map}
use Rattle.mc_model.specs.cluster.Steps.{Cluster}
use Rattle.mc_model.specs.node.Input.{Delivery, Restart}
use Rattle.mc_model.specs.synod.Packet.{Packet}
use Rattle.node_model.specs.Outputs.{nothing}
use Rattle.node_laws.specs.Clusters.{MayHappen, NodeInput, comes_to, kept_reached, outputs_at}
use Rattle.rest_laws.specs.AtRest.{AreAtRest}
use Rattle.rest_laws.specs.Cooled.{AreCalm, AreShut, cool}
use Rattle.rest_laws.specs.Remains.{Cools, Drops, Event, Remains, Starts, Takes, given_at, remains_after}
use Rattle.rest_laws.specs.Without.{without}

-- These inputs, the newest first, lead a cluster there, but for what its nodes dropped, which is at rest, and for what they forgot of messages that are cold,
-- which are calm and shut.
pub record StandsBehind (cluster : Cluster) (inputs : List NodeInput) (r : Remains) : Type 0 where
  pub may : MayHappen cluster inputs
  pub kept_is : (node : ℕ) →
      cool (r.cold node) (r.kept node) ≡ cool (r.cold node) (without (r.gone node) ((kept_reached cluster inputs).kept node))
  pub packets_are : r.packets ≡ (kept_reached cluster inputs).packets
  pub rest : (node : ℕ) → AreAtRest (r.gone node) ((kept_reached cluster inputs).kept node)
  pub calm : (node : ℕ) → AreCalm (r.cold node) (r.kept node)
  pub shut : (node : ℕ) → AreShut (r.cold node) (r.kept node) × AreShut (r.cold node) ((kept_reached cluster inputs).kept node)

-- these packets come to a node again, the first of them last
abbrev pub come_again : ℕ → List Packet → List NodeInput → List NodeInput
come_again node packets inputs = map (λ packet. comes_to node (Delivery packet)) packets ++ inputs

-- nothing goes out by any of them
abbrev pub GiveNothing : Cluster → ℕ → List Packet → List NodeInput → Type 0
GiveNothing cluster node [] inputs = Unit {0}
GiveNothing cluster node (packet ∷ packets) inputs =
    (outputs_at cluster (come_again node packets inputs) (comes_to node (Delivery packet)) ≡ nothing) × GiveNothing cluster node packets inputs

-- A node starts anew, and then packets come to it again by which nothing goes out: so it goes on to what remains then.
pub record StartsBehind (cluster : Cluster) (inputs : List NodeInput) (node lost : ℕ) (r : Remains) : Type 0 where
  pub again : List Packet
  pub stands : StandsBehind cluster (come_again node again (comes_to node (Restart lost) ∷ inputs)) r
  pub quiet : GiveNothing cluster node again (comes_to node (Restart lost) ∷ inputs)

-- These inputs stand for these events: the same comes and the same is given out, but that nothing is dropped or forgotten, and that
-- behind a start anew packets come again.
abbrev pub StandFor : Cluster → List NodeInput → List Event → Type 0
StandFor cluster inputs [] = inputs ≡ []
StandFor cluster inputs (Takes node input ∷ older) =
    (before : List NodeInput) × (inputs ≡ comes_to node input ∷ before)
    × (given_at cluster older node input ≡ outputs_at cluster before (comes_to node input)) × StandFor cluster before older
StandFor cluster inputs (Drops node id ∷ older) = StandFor cluster inputs older
StandFor cluster inputs (Cools node id ∷ older) = StandFor cluster inputs older
StandFor cluster inputs (Starts node lost ∷ older) =
    (before : List NodeInput) × (again : List Packet) × (inputs ≡ come_again node again (comes_to node (Restart lost) ∷ before))
    × GiveNothing cluster node again (comes_to node (Restart lost) ∷ before) × StandFor cluster before older

-- both: these inputs stand for these events, and lead to what remains after them
pub record IsBehind (cluster : Cluster) (inputs : List NodeInput) (events : List Event) : Type 0 where
  pub stands : StandsBehind cluster inputs (remains_after cluster events)
  pub events_are : StandFor cluster inputs events
