-- Laws of the texts of scripts over several nodes.
use Rattle.std.specs.Prelude.{◌≡◌, ◌≢◌, ℕ, List, [], ◌∷◌, ◌++◌, length, Option, Some, None}
use Rattle.std.specs.Fmt.{decimal}
use Rattle.mc_model.specs.message.Ids.{IsId}
use Rattle.mc_model.specs.synod.Lists.{In}
use Rattle.mc_model.specs.synod.Packet.{Slot}
use Rattle.mc_model.specs.node.Input.{Grant as Grants}
use Rattle.pdu_bodies.specs.declared.pdu.Pdu.{Pdu}
use Rattle.script_lines.specs.Said.{Grant, Said, said_within}
use Rattle.script_text.specs.Laws.{StatesFate, TellsState}
use Rattle.script_text.specs.Prints.{Print, Delivers}
use Rattle.script_text.specs.Settings.{Settings}
use Rattle.script_text.specs.Prints.{At, WorldPrint}
use Rattle.script_text.specs.Script.{Joins, Stage, Stepped, nodes_of, prints_of, step_of}
use Rattle.script_text.specs.World.{NodeInput, World}

-- Two final states that a script prints for one message are equal, at whatever nodes they are printed.
abbrev pub OneFateIsPrintedByAllNodes : Type 0
OneFateIsPrintedByAllNodes =
    (script : List ℕ) (here there : ℕ) (first second : Print) (message_id : List ℕ) (one other : ℕ)
    → In (At here first) (prints_of script)
    → In (At there second) (prints_of script)
    → StatesFate first message_id one
    → StatesFate second message_id other
    → one ≡ other

-- After a node has printed a final state of a message, no query_sm of the message that it answers ESME_ROK tells another state; so after a
-- cancel_sm that it answers ESME_ROK, no other state than DELETED.
abbrev pub PrintedFatesStay : Type 0
PrintedFatesStay =
    (script : List ℕ) (before later : List WorldPrint) (node : ℕ) (first query : Print) (message_id : List ℕ) (one other : ℕ)
    → prints_of script ≡ before ++ At node first ∷ later
    → In (At node query) later
    → StatesFate first message_id one
    → TellsState query message_id other
    → other ≡ one

-- After lines have printed a final state of a message, at whatever node, no attempt of it is granted by later lines, at any node.
abbrev pub NoAttemptIsGrantedAfterAFate : Type 0
NoAttemptIsGrantedAfterAFate =
    (settings : Settings) (before later : List (List ℕ)) (came coming : List NodeInput) (prints others : List WorldPrint) (middle last : Stage)
    (here there : ℕ) (first : Print) (message_id : List ℕ) (state : ℕ) (slot : Slot)
    → Joins settings None before came prints middle
    → Joins settings middle later coming others last
    → In (At here first) prints
    → StatesFate first message_id state
    → In (record { node = there; input = Grants slot }) coming
    → IsId slot.id
    → decimal slot.id ≢ message_id

-- nothing came to a node by a line, so nothing was granted, and no deliver_sm of an attempt went out
pub record GrantsNothing (done : Stepped) : Type 0 where
  pub inputs : done.inputs ≡ []
  pub prints : (node session : ℕ) (pdu : Pdu) → In (At node (Delivers session pdu)) done.prints → ⊥

-- And a line that asks a node for an attempt of it has nothing granted.
abbrev pub AttemptsAreRefusedAfterAFate : Type 0
AttemptsAreRefusedAfterAFate =
    (settings : Settings) (before later : List (List ℕ)) (came coming : List NodeInput) (prints others : List WorldPrint) (middle last : Stage)
    (line : List ℕ) (done : Stepped) (here there id : ℕ) (first : Print) (state : ℕ)
    → Joins settings None before came prints middle
    → Joins settings middle later coming others last
    → In (At here first) prints
    → StatesFate first (decimal id) state
    → said_within (nodes_of last) line ≡ Some (Grant there id)
    → step_of settings last line ≡ Some done
    → GrantsNothing done

-- A line asks a node for the attempt of a message of which none of these prints tells a final state.
pub record AsksBeforeAFate (prints : List WorldPrint) (node : ℕ) (said : Option Said) : Type 0 where
  pub id : ℕ
  pub asks : said ≡ Some (Grant node id)
  pub unfated : (here : ℕ) (first : Print) (state : ℕ) → In (At here first) prints → StatesFate first (decimal id) state → ⊥

-- A deliver_sm of an attempt goes out at a node by a line alone that asks the node for the attempt, and of no message of which a final state was
-- printed before, at whatever node.
abbrev pub DeliveriesComeBeforeFates : Type 0
DeliveriesComeBeforeFates =
    (settings : Settings) (before : List (List ℕ)) (came : List NodeInput) (prints : List WorldPrint) (world : World) (line : List ℕ) (done : Stepped)
    (node session : ℕ) (pdu : Pdu)
    → Joins settings None before came prints (Some world)
    → step_of settings (Some world) line ≡ Some done
    → In (At node (Delivers session pdu)) done.prints
    → AsksBeforeAFate prints node (said_within (length world.runners) line)
