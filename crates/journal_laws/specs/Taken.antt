-- What a node of the code did, as an entry has it (own).
use Rattle.std.specs.Prelude.{◌≡◌, ℕ, ◌<◌, [], length, map, Option, Some, None}
use Rattle.mc_model.specs.message.Ids.{IsIncarnation}
use Rattle.mc_model.specs.synod.Acceptor.{Records}
use Rattle.mc_model.specs.synod.Packet.{Packet}
use Rattle.mc_model.specs.node.Input.{Input as Came}
use Rattle.mc_model.specs.node.Setup.{Setup}
use Rattle.node_model.specs.Kept.{Kept}
use Rattle.node_model.specs.Outputs.{nothing}
use Rattle.node_laws.specs.Steps.{IsWellMade}
use Rattle.stable_store.specs.Stored.{Stored}
use Rattle.synod_acceptor.specs.Packets.{packet_of}
use Rattle.node_core.specs.Input.{Input}
use Rattle.node_core.specs.Input.TheVariants as inputs
use Rattle.node_core.specs.declared.life.Life.{Life}
use Rattle.node_core.specs.Keeping.{kept_of}
use Rattle.node_core.specs.Listing.{ListsRecorded}
use Rattle.node_core.specs.Nodes.{OpensOver, Standing, records_in}
use Rattle.node_core.specs.Outputs.{Outputs}
use Rattle.node_core.specs.Stopped.{Stopped}
use Rattle.node_core.specs.Stops.{IsTold, IsUnfinished}
use Rattle.world_runs.specs.Given.{Given}
use Rattle.world_runs.specs.Step.{Step}
use Rattle.world_runs.specs.Step.TheVariants as steps
use Rattle.world_runs.specs.Runs.{IsGiven}
use Rattle.journal_laws.specs.Journals.{Done, IsOwnRun, IsOwnStep, steps_for}

-- ---- a step

-- a packet is named by its number
abbrev pub step_of : ℕ → ℕ → Input → Step
step_of node number (inputs.Packet packet) = steps.Deliver number node
step_of node number (inputs.Request account request) = steps.Request node account request
step_of node number (inputs.Grant id) = steps.Grant node id
step_of node number (inputs.Answered slot outcome) = steps.Answered node slot outcome
step_of node number (inputs.Tick moment reach) = steps.Tick node moment reach

abbrev pub packet_in : Input → Option Packet
packet_in (inputs.Packet packet) = Some (packet_of packet)
packet_in other = None

abbrev pub given_of : Outputs → Given
given_of outputs = record {
  ticket = outputs.ticket;
  refused = outputs.refused;
  replies = outputs.replies;
  receipts = outputs.receipts;
  granted = outputs.granted;
  packets = length outputs.packets.items;
}

abbrev pub done_by : ℕ → ℕ → Input → Outputs → Done
done_by node number input outputs = record {
  step = step_of node number input;
  packet = packet_in input;
  given = given_of outputs;
  sent = map packet_of outputs.packets.items;
}

-- it is one of the node's own run, by this input of the model
pub record IsTakenBy (setup : Setup) (k : Kept) (input : Came) (done : Done) : Type 0 where
  pub own : IsOwnStep setup k done
  pub by : own.input ≡ input

-- ---- a start anew

-- A node was opened again over what its store had. What it lists, and what `reopen` ensures; and beside that the disk returned nothing that nobody wrote,
-- and its incarnation is a later one.
pub record IsReopened {S : Type 0} (stored : S → Stored) (old new : Standing S) (life : Life) : Type 0 where
  pub lists : ListsRecorded (kept_of old.kept)
  pub left : (left : Records) → (stored old.store).may_hold left → IsUnfinished old.kept left old.unfinished
  pub opens : OpensOver (stored old.store) old.kept.setup (stored new.store) new life
  pub told : (stored new.store).doubt ≡ 0 → IsTold old.kept (records_in new.kept) old.unfinished new.stopped
  pub bounds : IsIncarnation new.kept.incarnation
  pub undoubted : (stored new.store).doubt ≡ 0
  pub later : old.kept.incarnation < new.kept.incarnation

abbrev pub started_anew : ℕ → Given → Option Packet → Done
started_anew node given packet = record { step = steps.Restart node; packet = packet; given = given; sent = [] }

-- If it tells of no save, it started anew.
abbrev pub StartsAnew : {S : Type 0} → (S → Stored) → Type 0
StartsAnew {S} stored =
    (old new : Standing S) (life : Life) (given : Given) → IsReopened stored old new life → new.stopped ≡ None → IsGiven given nothing →
    IsOwnRun old.kept.setup (kept_of old.kept) (steps_for (started_anew old.kept.setup.node given None) None) (kept_of new.kept)

-- If it tells of the save of a packet, which has this number, it stopped in that save, and then started anew.
abbrev pub StopsAndStartsAnew : {S : Type 0} → (S → Stored) → Type 0
StopsAndStartsAnew {S} stored =
    (old new : Standing S) (life : Life) (given : Given) (number : ℕ) (told : Stopped) → IsReopened stored old new life → new.stopped ≡ Some told →
    IsWellMade (packet_of told.packet) → IsGiven given nothing →
    IsOwnRun old.kept.setup (kept_of old.kept)
    (steps_for (started_anew old.kept.setup.node given (Some (packet_of told.packet))) (Some (record { number = number; found = told.found })))
    (kept_of new.kept)
