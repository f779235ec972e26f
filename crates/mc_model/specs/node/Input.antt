-- What comes to a node.
use Rattle.std.specs.Prelude.{ℕ, Bool}
use Rattle.mc_model.specs.synod.Packet.{Packet, Slot}
use Rattle.mc_model.specs.node.Outcome.{Outcome}
use Rattle.mc_model.specs.node.Actor.{Request}
use Rattle.mc_model.specs.node.Reach.{Reach}

pub data Input : Type 0 where
  Delivery : Packet → Input
  -- the same, but the node stops, before it has saved what it would save or after it
  Crash : Packet → Bool → Input
  -- a request that waits, and one that is answered at once, with this command_status
  Arrival : Request → Input
  Refusal : ℕ → Input
  -- a moment, with which accounts have a session that may receive, and of which messages an attempt may begin
  Tick : ℕ → Reach → Input
  -- an attempt is asked for, and what came of one
  Grant : Slot → Input
  Response : Slot → Outcome → Input
  -- the node starts anew, after this many starts that failed
  Restart : ℕ → Input
