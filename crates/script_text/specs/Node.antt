-- A node of a script: what it keeps by the node's model, and the packets that it sent and that were not given out.
use Rattle.std.specs.Prelude.{ℕ, List, [], ◌++◌}
use Rattle.mc_model.specs.synod.Packet.{Packet}
use Rattle.mc_model.specs.node.Input.{Input, Tick}
use Rattle.mc_model.specs.node.Setup.{Setup}
use Rattle.node_model.specs.Kept.{Kept}
use Rattle.node_model.specs.Outputs.{Stepped}
use Rattle.node_model.specs.Stepped.{opened_new, stepped}
use Rattle.desk.specs.Arrivals.{requested}
use Rattle.desk.specs.declared.request.Request.{Request}
use Rattle.mc_model.specs.node.Reach.{of_all}
use Rattle.delivery.specs.Targets.{is_up}

pub record Node : Type 0 where
  pub setup : Setup
  pub kept : Kept
  -- the oldest first
  pub packets : List Packet

-- a node opens with a new store
abbrev pub opened_by : Setup → Node
opened_by setup = record { setup = setup; kept = opened_new setup; packets = [] }

-- ---- a step

abbrev pub step_at : Node → Input → Stepped
step_at node input = stepped node.setup node.kept input

-- what it sends comes behind what it has sent before
abbrev pub with_step : Node → Stepped → Node
with_step node step = record node { kept = step.kept; packets = node.packets ++ step.outputs.packets }

-- these packets are still to come
abbrev pub awaiting : Node → List Packet → Node
awaiting node packets = record node { packets = packets }

-- a request of an account
abbrev pub request_at : Node → List ℕ → Request → Input
request_at node account request = requested node.setup node.kept account request

-- a moment, at which these accounts have a session that may receive
abbrev pub tick_at : ℕ → List (List ℕ) → Input
tick_at moment up = Tick moment (of_all (is_up up))
