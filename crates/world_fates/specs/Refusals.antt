-- Requests that are refused at once.
use Rattle.std.specs.Prelude.{◌≡◌, ◌≢◌, ℕ, List, Ok}
use Rattle.std.specs.Fmt.{decimal}
use Rattle.mc_model.specs.message.Ids.{IsId}
use Rattle.mc_model.specs.synod.Lists.{In}
use Rattle.pdu_tables.specs.StatusCodes.{status_code}
use Rattle.pdu_tables.specs.declared.status.Status.TheVariants as statuses
use Rattle.pdu_bodies.specs.declared.pdu.Body.{Body}
use Rattle.pdu_bodies.specs.declared.pdu.Body.TheVariants.{CancelSm, QuerySm}
use Rattle.pdu_bodies.specs.declared.pdu.Pdu.{Pdu}
use Rattle.pdu_codec.specs.Pdu.{read_pdu}
use Rattle.script_text.specs.Prints.{AtOnce}
use Rattle.script_text.specs.Runner.{Runner, on_frame}
use Rattle.script_text.specs.Settings.{Settings}

-- a query_sm or a cancel_sm has the message_id of this id (SMPP 3.4, 4.8.1 and 4.9.1)
abbrev pub NamesMessage : ℕ → Body → Type 0
NamesMessage id (QuerySm query) = query.message_id ≡ decimal id
NamesMessage id (CancelSm cancel) = cancel.message_id ≡ decimal id
NamesMessage id other = ⊥

-- Of a frame that reads as a query_sm or a cancel_sm with the message_id of an id a node says at once at no time that there is no such message
-- (ESME_RINVMSGID: SMPP 3.4, 5.1.3), however much waits there.
abbrev pub IdsAreNotRefusedAtOnce : Type 0
IdsAreNotRefusedAtOnce =
    (settings : Settings) (number session : ℕ) (runner : Runner) (frame : List ℕ) (asked : Pdu) (id : ℕ) (pdu : Pdu)
    → read_pdu frame ≡ Ok asked
    → NamesMessage id asked.body
    → IsId id
    → In (AtOnce session pdu) (on_frame settings number runner frame).prints
    → pdu.status ≢ status_code statuses.InvalidMessageId
