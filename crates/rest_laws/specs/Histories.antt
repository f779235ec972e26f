-- What a history of nodes that forget messages has in it (own; DELIVERED is that of SMPP 3.4, 5.2.28).
use Rattle.std.specs.Prelude.{◌≡◌, ℕ, List, ◌∷◌, ◌++◌}
use Rattle.mc_model.specs.cluster.Steps.{Cluster}
use Rattle.mc_model.specs.message.Chain.{untold}
use Rattle.mc_model.specs.message.Decree.{Attempt, Decree, Delivered, Fate}
use Rattle.mc_model.specs.node.Input.{Grant, Input, Response, Restart}
use Rattle.mc_model.specs.node.Outcome.{Concluded}
use Rattle.mc_model.specs.synod.Lists.{In}
use Rattle.mc_model.specs.synod.Packet.{slot_of}
use Rattle.node_laws.specs.Clusters.{NodeInput}
use Rattle.rest_laws.specs.Behind.{IsBehind}
use Rattle.rest_laws.specs.Remains.{Event, Starts, Takes}

-- a run of the cluster stands behind it
abbrev pub HasRun : Cluster → List Event → Type 0
HasRun cluster events = (inputs : List NodeInput) × IsBehind cluster inputs events

-- the event by which an input comes to a node that forgets nothing
abbrev pub event_by : ℕ → Input → Event
event_by node (Restart lost) = Starts node lost
event_by node input = Takes node input

abbrev pub event_of : NodeInput → Event
event_of next = event_by next.node next.input

-- a node does not start anew as these events happen
abbrev pub LivesThrough : ℕ → List Event → Type 0
LivesThrough node events = (lost : ℕ) → In (Starts node lost) events → ⊥

-- of events, the newest first, a node took a step of one input, and later, in the same life, one of another
pub record TookInOneLife (node : ℕ) (first second : Input) (events : List Event) : Type 0 where
  pub newer : List Event
  pub middle : List Event
  pub older : List Event
  pub split : events ≡ newer ++ Takes node second ∷ (middle ++ Takes node first ∷ older)
  pub lives : LivesThrough node middle

-- A chain ends in the fate DELIVERED, told or not, behind an attempt of the same author. In these events that attempt was granted at its author's node, and
-- then, in the same life of the node, answered there by ESME_ROK.
pub record IsDeliveredIn (id : ℕ) (chain : List Decree) (events : List Event) : Type 0 where
  pub fate : Decree
  pub attempt : Decree
  pub older : List Decree
  pub number : ℕ
  pub chain_is : untold chain ≡ fate ∷ attempt ∷ older
  pub attempted : attempt.kind ≡ Attempt number
  pub delivered : fate.kind ≡ Fate Delivered 0
  pub author : fate.author ≡ attempt.author
  pub granted : TookInOneLife attempt.author.node (Grant (slot_of id (attempt ∷ older)))
      (Response (slot_of id (attempt ∷ older)) (Concluded Delivered 0)) events
