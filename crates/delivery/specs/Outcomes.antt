-- What came of an attempt, by what the ESME answered to its deliver_sm (SMPP 3.4, 4.6.2 and 4.3.1; the errors are own).
use Rattle.std.specs.Prelude.{ℕ, min, ◌==◌, Option, Some, None, if◌then◌else◌}
use Rattle.mc_model.specs.message.Decree.{Delivered, Rejected, Undeliverable}
use Rattle.mc_model.specs.node.Outcome.{Concluded, Outcome, Unanswered, most_status_error, rejected_error, undeliverable_error}
use Rattle.pdu_bodies.specs.declared.pdu.Body.{Body}
use Rattle.pdu_bodies.specs.declared.pdu.Body.TheVariants.{DeliverSmResp, GenericNack}
use Rattle.pdu_bodies.specs.declared.pdu.Pdu.{Pdu}
use Rattle.pdu_tables.specs.StatusCodes.{status_code}
use Rattle.pdu_tables.specs.declared.status.Status.TheVariants.{Ok, PermanentApplicationError, RejectedByApplication}

-- the attempt failed, with the status of the response as its error
abbrev pub failed_with : ℕ → Outcome
failed_with status = Unanswered (min status most_status_error)

-- ESME_ROK, ESME_RX_P_APPN and ESME_RX_R_APPN conclude the message; any other status is a failure
unfoldable pub outcome_by : ℕ → Outcome
outcome_by status =
    if status == status_code Ok then Concluded Delivered 0
    else if status == status_code PermanentApplicationError then Concluded Undeliverable undeliverable_error
    else if status == status_code RejectedByApplication then Concluded Rejected rejected_error
    else failed_with status

-- a deliver_sm_resp tells of it, and a generic_nack, whatever its status, that it failed
abbrev pub told_by : ℕ → Body → Option Outcome
told_by status (DeliverSmResp text) = Some (outcome_by status)
told_by status GenericNack = Some (failed_with status)
told_by status body = None

-- and only with the sequence_number of the deliver_sm
abbrev pub told_in : ℕ → Pdu → Option Outcome
told_in sequence pdu = if pdu.sequence == sequence then told_by pdu.status pdu.body else None
