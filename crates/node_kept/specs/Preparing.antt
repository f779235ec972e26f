-- A step that is prepared for what came.
use Rattle.std.specs.Prelude.{◌≡◌, Option, Some, None}
use Rattle.synod_acceptor.specs.declared.packet.Packet.{Packet}
use Rattle.node_parts.specs.declared.input.Input.{Input}
use Rattle.node_parts.specs.declared.input.Input.TheVariants as given
use Rattle.node_kept.specs.declared.kept.Kept.{Kept}
use Rattle.node_kept.specs.declared.step.Step.{Step}
use Rattle.node_kept.specs.Steps.{IsStepFor}

-- the packet that came, if one did
abbrev pub packet_in : Input → Option Packet
packet_in (given.Packet packet) = Some packet
packet_in (given.Request account request) = None
packet_in (given.Grant id) = None
packet_in (given.Answered slot outcome) = None
packet_in (given.Tick moment reach) = None

-- it is the step for what came, and has the packet that came
pub record IsPrepared (k : Kept) (input : Input) (step : Step) (packet : Option Packet) : Type 0 where
  pub is : IsStepFor k input step
  pub came : packet ≡ packet_in input
