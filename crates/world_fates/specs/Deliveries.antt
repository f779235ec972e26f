-- What each DELIVERED of a text stands on. Lines, nodes and what comes to them are of scripts (own).
use Rattle.std.specs.Prelude.{◌≡◌, ℕ, List, [], ◌∷◌, ◌++◌, length, Option, Some, None, Ok}
use Rattle.std.specs.Fmt.{decimal}
use Rattle.mc_model.specs.message.Decree.{Delivered}
use Rattle.mc_model.specs.synod.Lists.{In}
use Rattle.mc_model.specs.synod.Packet.{Slot}
use Rattle.mc_model.specs.node.Input.{Grant as Grants, Input, Response, Restart}
use Rattle.mc_model.specs.node.Outcome.{Concluded}
use Rattle.pdu_tables.specs.StateCodes.{state_code}
use Rattle.pdu_tables.specs.StatusCodes.{status_code}
use Rattle.pdu_tables.specs.declared.state.State.TheVariants as states
use Rattle.pdu_tables.specs.declared.status.Status.TheVariants as statuses
use Rattle.pdu_bodies.specs.declared.pdu.Body.TheVariants.{DeliverSmResp}
use Rattle.pdu_bodies.specs.declared.pdu.Pdu.{Pdu}
use Rattle.pdu_codec.specs.Pdu.{read_pdu}
use Rattle.pdu_frames.specs.Frames.{cut}
use Rattle.script_lines.specs.Said.{Grant, Octets, said_within}
use Rattle.script_text.specs.Laws.{StatesFate}
use Rattle.script_text.specs.Prints.{Delivers, Gone, Print}
use Rattle.script_text.specs.Runner.{Runner, held_in}
use Rattle.script_text.specs.Settings.{Settings}
use Rattle.script_text.specs.Prints.{At, WorldPrint}
use Rattle.script_text.specs.Script.{Joins, Stage, Stepped, step_of}
use Rattle.script_text.specs.World.{NodeInput, World, runner_at}

-- ---- by what came to nodes

-- at a node this comes
abbrev pub comes : ℕ → Input → NodeInput
comes node input = record { node = node; input = input }

-- Of what came to nodes, the oldest first: an attempt was granted at a node, and later, in the same life of the node, answered there by ESME_ROK.
pub record WasAnswered (came : List NodeInput) (node : ℕ) (slot : Slot) : Type 0 where
  pub before : List NodeInput
  pub middle : List NodeInput
  pub after : List NodeInput
  pub came_is : came ≡ before ++ comes node (Grants slot) ∷ (middle ++ comes node (Response slot (Concluded Delivered 0)) ∷ after)
  pub lives : (lost : ℕ) → In (comes node (Restart lost)) middle → ⊥

-- it was an attempt of the message of a message_id
pub record StandsOnAnAnswer (came : List NodeInput) (message_id : List ℕ) : Type 0 where
  pub node : ℕ
  pub slot : Slot
  pub message : decimal slot.id ≡ message_id
  pub answered : WasAnswered came node slot

-- If lines print DELIVERED of a message, in a query_sm_resp or a delivery receipt (SMPP 3.4, 4.8.2 and appendix B), then by these lines an
-- attempt of it was granted and answered by ESME_ROK.
abbrev pub PrintedDeliveriesStand : Type 0
PrintedDeliveriesStand =
    (settings : Settings) (lines : List (List ℕ)) (came : List NodeInput) (prints : List WorldPrint) (last : Stage)
    (here : ℕ) (print : Print) (message_id : List ℕ)
    → Joins settings None lines came prints last
    → In (At here print) prints
    → StatesFate print message_id (state_code states.Delivered)
    → StandsOnAnAnswer came message_id

-- ---- by the octets of lines

-- These lines lead to a world, and there a line does this (own).
pub record IsSaid (settings : Settings) (before : List (List ℕ)) (world : World) (line : List ℕ) (done : Stepped) : Type 0 where
  pub came : List NodeInput
  pub prints : List WorldPrint
  pub joins : Joins settings None before came prints (Some world)
  pub does : step_of settings (Some world) line ≡ Some done

-- The line asks a node for an attempt; it is granted, and its deliver_sm goes out on a session with this sequence_number (SMPP 3.4, 4.6.1).
pub record GoesOut (world : World) (line : List ℕ) (done : Stepped) (node session sequence : ℕ) (slot : Slot) : Type 0 where
  pub asks : said_within (length world.runners) line ≡ Some (Grant node slot.id)
  pub granted : done.inputs ≡ comes node (Grants slot) ∷ []
  pub deliver : Pdu
  pub prints : done.prints ≡ At node (Delivers session deliver) ∷ []
  pub sequence_is : deliver.sequence ≡ sequence

-- These lines lead on to a world, and they do not print that the session is gone (own).
pub record Stays (settings : Settings) (first : Stage) (lines : List (List ℕ)) (last : World) (node session : ℕ) : Type 0 where
  pub came : List NodeInput
  pub prints : List WorldPrint
  pub joins : Joins settings first lines came prints (Some last)
  pub stays : In (At node (Gone session)) prints → ⊥

-- In these lines the deliver_sm of an attempt went out, and its session is the same still (SMPP 3.4, 4.6.1).
pub record WentOut (settings : Settings) (lines : List (List ℕ)) (last : World) (node session sequence : ℕ) (slot : Slot) : Type 0 where
  pub before : List (List ℕ)
  pub asking : List ℕ
  pub later : List (List ℕ)
  pub lines_are : lines ≡ before ++ asking ∷ later
  pub world : World
  pub done : Stepped
  pub said : IsSaid settings before world asking done
  pub goes : GoesOut world asking done node session sequence slot
  pub stays : Stays settings done.next later last node session

-- Octets come on a session of a node, and in them a frame ends that reads as a deliver_sm_resp with ESME_ROK and this sequence_number
-- (SMPP 3.4, 4.6.2, 5.1.3 and 5.1.4); it may have begun in octets that came before.
pub record IsAnswer (world : World) (line : List ℕ) (node session sequence : ℕ) : Type 0 where
  pub octets : List ℕ
  pub says : said_within (length world.runners) line ≡ Some (Octets node session octets)
  pub runner : Runner
  pub there : runner_at world node ≡ Some runner
  pub frame : List ℕ
  pub ends : In frame (cut (held_in runner.streams session ++ octets)).frames
  pub pdu : Pdu
  pub text : Option (List ℕ)
  pub reads : read_pdu frame ≡ Ok pdu
  pub body : pdu.body ≡ DeliverSmResp text
  pub status : pdu.status ≡ status_code statuses.Ok
  pub sequence_is : pdu.sequence ≡ sequence

-- The line answers the deliver_sm of an attempt that went out in the lines before it (SMPP 3.4, 4.6.2).
pub record IsAnswered (settings : Settings) (before : List (List ℕ)) (world : World) (line : List ℕ) (node : ℕ) (slot : Slot) : Type 0 where
  pub session : ℕ
  pub sequence : ℕ
  pub went : WentOut settings before world node session sequence slot
  pub answer : IsAnswer world line node session sequence

-- If a line brings a node that an attempt was answered by ESME_ROK, then so it was: the deliver_sm of the attempt went out before, and the line
-- is of octets in which its deliver_sm_resp ends, on the same session.
abbrev pub AnswersComeInOctets : Type 0
AnswersComeInOctets =
    (settings : Settings) (before : List (List ℕ)) (world : World) (line : List ℕ) (done : Stepped) (node : ℕ) (slot : Slot) (error : ℕ)
    → IsSaid settings before world line done
    → In (comes node (Response slot (Concluded Delivered error))) done.inputs
    → IsAnswered settings before world line node slot

-- ---- both

-- Of these lines one answers the deliver_sm of an attempt of the message of a message_id.
pub record IsDelivered (settings : Settings) (lines : List (List ℕ)) (message_id : List ℕ) : Type 0 where
  pub before : List (List ℕ)
  pub line : List ℕ
  pub later : List (List ℕ)
  pub lines_are : lines ≡ before ++ line ∷ later
  pub world : World
  pub node : ℕ
  pub slot : Slot
  pub message : decimal slot.id ≡ message_id
  pub answered : IsAnswered settings before world line node slot

-- DELIVERED is printed only of a message whose deliver_sm went out and was answered ESME_ROK, on that session and with that sequence_number.
abbrev pub DeliveredIsPrintedOfWhatWasAnswered : Type 0
DeliveredIsPrintedOfWhatWasAnswered =
    (settings : Settings) (lines : List (List ℕ)) (came : List NodeInput) (prints : List WorldPrint) (last : Stage)
    (here : ℕ) (print : Print) (message_id : List ℕ)
    → Joins settings None lines came prints last
    → In (At here print) prints
    → StatesFate print message_id (state_code states.Delivered)
    → IsDelivered settings lines message_id
