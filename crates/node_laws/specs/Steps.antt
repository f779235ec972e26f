-- A step of what is kept is a step of the actor.
use Rattle.std.specs.Prelude.{◌≡◌, ◌≤◌, true, List}
use Rattle.mc_model.specs.message.Chain.{IsPermitted}
use Rattle.mc_model.specs.synod.Packet.{Ask, Packet, Prepare, Promise, Propose, Refused, Tell, Voted}
use Rattle.mc_model.specs.node.Act.{Act}
use Rattle.mc_model.specs.node.Alone.{IsStepAlone, Node, reached_alone}
use Rattle.mc_model.specs.node.Input.{Input}
use Rattle.mc_model.specs.node.Outputs.{outputs_of}
use Rattle.mc_model.specs.node.Setup.{Setup}
use Rattle.node_model.specs.Outputs.{Stepped}
use Rattle.node_laws.specs.Stands.{IsPlaced, IsWithin, Stands}

-- By these acts the actor takes an exact step, which it may take by itself, gives out the same, and is then one for which what is
-- kept stands.
pub record StepsAs (setup : Setup) (s : Node) (input : Input) (step : Stepped) : Type 0 where
  pub acts : List Act
  pub taken : IsStepAlone setup s input acts
  pub stands : Stands setup step.kept (reached_alone setup.node s acts)
  pub outputs : step.outputs ≡ outputs_of setup.node s.actor s.records input acts

-- the node is one of its cluster, and up
pub record IsAtWork (setup : Setup) (s : Node) : Type 0 where
  pub least : 1 ≤ setup.node
  pub most : setup.node ≤ setup.nodes
  pub up : s.actor.up ≡ true

-- A Propose names the slot of its chain, which has a place; a vote that is told of is for a permitted chain, and one that is told
-- to a question is at one of the places of a chain.
abbrev pub IsWellMade : Packet → Type 0
IsWellMade (Prepare sender slot ballot) = Unit {0}
IsWellMade (Promise sender slot ballot report) = Unit {0}
IsWellMade (Propose sender slot vote) = IsPlaced slot vote
IsWellMade (Voted sender slot vote) = IsPermitted slot.id vote.chain
IsWellMade (Refused sender slot ballot promised) = Unit {0}
IsWellMade (Ask sender id name) = Unit {0}
IsWellMade (Tell sender name told) = IsWithin told
