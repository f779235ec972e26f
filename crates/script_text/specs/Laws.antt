-- Laws of the texts of scripts.
use Rattle.std.specs.Prelude.{◌≡◌, ◌≢◌, ◌⊎◌, ℕ, Bool, List, Option, Some, None}
use Rattle.std.specs.Fmt.{decimal}
use Rattle.node_laws.specs.Clusters.{NodeInput}
use Rattle.pdu_tables.specs.StateCodes.{state_code}
use Rattle.pdu_tables.specs.StatusCodes.{status_code}
use Rattle.pdu_tables.specs.declared.state.State.TheVariants as states
use Rattle.pdu_tables.specs.declared.status.Status.TheVariants as statuses
use Rattle.pdu_bodies.specs.declared.pdu.Body.TheVariants.{QuerySmResp, CancelSmResp}
use Rattle.pdu_bodies.specs.declared.pdu.Pdu.{Pdu}
use Rattle.pdu_bodies.specs.declared.pdu.QueryAnswer.{QueryAnswer}
use Rattle.delivery.specs.States.{final_code}
use Rattle.receipts.specs.Texts.{Report}
use Rattle.script_text.specs.Settings.{Settings}
use Rattle.script_text.specs.Prints.{Print, WorldPrint, AtOnce, Late, Delivers, Reports, Gone, Declined, Ungranted, report_pdu}
use Rattle.script_text.specs.Script.{Stage, Joins, bad_from, bad_line, prints_from, text_of}
use Rattle.script_text.specs.OneNode.{one_node_text}
use Rattle.script_text.specs.Calm.{IsCalm}
use Rattle.script_text.specs.Example.{first_script, first_text, second_script, second_text}

-- ---- a script is its lines, joined

-- Lines that join print what the lines are computed to print, and none of them is bad.
abbrev pub JoinedLinesArePrinted : Type 0
JoinedLinesArePrinted =
    (settings : Settings) (first : Stage) (lines : List (List ℕ)) (came : List NodeInput) (prints : List WorldPrint) (last : Stage) (number : ℕ)
    → Joins settings first lines came prints last
    → (prints ≡ prints_from settings first lines) × (bad_from settings first number lines ≡ None)

-- Lines join if none of them is bad.
abbrev pub GoodLinesJoin : Type 0
GoodLinesJoin =
    (settings : Settings) (first : Stage) (lines : List (List ℕ)) (number : ℕ)
    → bad_from settings first number lines ≡ None
    → (came : List NodeInput) × (last : Stage) × Joins settings first lines came (prints_from settings first lines) last

-- ---- calm scripts

-- A calm script has the one-node text.
abbrev pub CalmTextIsOfOneNode : Type 0
CalmTextIsOfOneNode = (script : List ℕ) → IsCalm script → (bad_line script ≡ None) × (text_of script ≡ one_node_text script)

-- ---- fates

abbrev pub pdu_in : Print → Option Pdu
pdu_in (AtOnce session pdu) = Some pdu
pdu_in (Late session id pdu) = Some pdu
pdu_in (Delivers session pdu) = Some pdu
pdu_in (Reports session sequence optional report) = Some (report_pdu sequence optional report)
pdu_in (Gone session) = None
pdu_in (Declined number) = None
pdu_in (Ungranted reason) = None

-- A query_sm_resp with ESME_ROK tells that the message of a message_id has this message_state.
pub record TellsState (print : Print) (message_id : List ℕ) (state : ℕ) : Type 0 where
  pub pdu : Pdu
  pub answer : QueryAnswer
  pub printed : pdu_in print ≡ Some pdu
  pub status : pdu.status ≡ status_code statuses.Ok
  pub body : pdu.body ≡ QuerySmResp (Some answer)
  pub message : answer.message_id ≡ message_id
  pub state_is : answer.message_state ≡ state

-- A cancel_sm_resp with ESME_ROK tells that the message of a message_id is deleted.
pub record TellsDeletion (print : Print) (message_id : List ℕ) : Type 0 where
  pub session : ℕ
  pub id : ℕ
  pub pdu : Pdu
  pub printed : print ≡ Late session id pdu
  pub status : pdu.status ≡ status_code statuses.Ok
  pub body : pdu.body ≡ CancelSmResp
  pub message : decimal id ≡ message_id

-- A delivery receipt tells that the message of a message_id ended in this message_state.
pub record TellsReceipt (print : Print) (message_id : List ℕ) (state : ℕ) : Type 0 where
  pub session : ℕ
  pub sequence : ℕ
  pub optional : Bool
  pub report : Report
  pub printed : print ≡ Reports session sequence optional report
  pub message : decimal report.id ≡ message_id
  pub state_is : final_code report.final ≡ state

-- A print states that a message has a final state, by its message_state.
abbrev pub StatesFate : Print → List ℕ → ℕ → Type 0
StatesFate print message_id state =
    (TellsState print message_id state × (state ≢ state_code states.Enroute))
    ⊎ ((TellsDeletion print message_id × (state ≡ state_code states.Deleted)) ⊎ TellsReceipt print message_id state)

-- ---- examples

-- There are calm scripts: this one is, in which a message is submitted and queried, and this is its one-node text.
pub record FirstScriptIsCalm : Type 0 where
  pub calm : IsCalm first_script
  pub text : one_node_text first_script ≡ first_text

-- And this one is, in which a message is delivered and its receipt goes out.
pub record SecondScriptIsCalm : Type 0 where
  pub calm : IsCalm second_script
  pub text : one_node_text second_script ≡ second_text
