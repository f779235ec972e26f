-- What is told of attempts is possible.
use Rattle.std.proofs.Common.{ℕ, ◌≤◌, Bool, true, false, Option, Some, None, refl, inl, arith}
use Rattle.std.specs.Prelude.{◌==◌, min, if◌then◌else◌}
use Rattle.mc_model.specs.node.Outcome.{Concluded, IsOutcome, Outcome, most_status_error, rejected_error, undeliverable_error}
use Rattle.mc_model.specs.message.Decree.{Delivered, Rejected, Undeliverable}
use Rattle.pdu_bodies.specs.declared.pdu.Body.{Body}
use Rattle.pdu_bodies.specs.declared.pdu.Body.TheVariants as bodies
use Rattle.pdu_bodies.specs.declared.pdu.Pdu.{Pdu}
use Rattle.pdu_tables.specs.StatusCodes.{status_code}
use Rattle.pdu_tables.specs.declared.status.Status.TheVariants as statuses
use Rattle.delivery.specs.Outcomes.{failed_with, outcome_by, told_by, told_in}

-- an outcome that is possible, or none
abbrev pub IsPossible : Option Outcome → Type 0
IsPossible None = Unit {0}
IsPossible (Some outcome) = IsOutcome outcome

failure_possible : (status : ℕ) → IsOutcome (failed_with status)
failure_possible status = inl (least status most_status_error)
  where
    least : (one most : ℕ) → min one most ≤ most
    least one most = omega arith

status_possible : (status : ℕ) → IsOutcome (outcome_by status)
unfolding outcome_by
status_possible status = by_ok (status == status_code statuses.Ok)
  where
    by_rejected : (rejected : Bool) → IsOutcome (if rejected then Concluded Rejected rejected_error else failed_with status)
    by_rejected true = refl
    by_rejected false = failure_possible status

    by_permanent : (permanent : Bool) → IsOutcome (if permanent then Concluded Undeliverable undeliverable_error
        else if status == status_code statuses.RejectedByApplication then Concluded Rejected rejected_error else failed_with status)
    by_permanent true = refl
    by_permanent false = by_rejected (status == status_code statuses.RejectedByApplication)

    by_ok : (ok : Bool) → IsOutcome (if ok then Concluded Delivered 0
        else if status == status_code statuses.PermanentApplicationError then Concluded Undeliverable undeliverable_error
        else if status == status_code statuses.RejectedByApplication then Concluded Rejected rejected_error else failed_with status)
    by_ok true = refl
    by_ok false = by_permanent (status == status_code statuses.PermanentApplicationError)

body_possible : (status : ℕ) (body : Body) → IsPossible (told_by status body)
body_possible status (bodies.DeliverSmResp text) = status_possible status
body_possible status bodies.GenericNack = failure_possible status
body_possible status other = tt

-- so is what a PDU tells of a deliver_sm
pub told_possible : (sequence : ℕ) (pdu : Pdu) → IsPossible (told_in sequence pdu)
told_possible sequence pdu = by_test (pdu.sequence == sequence)
  where
    by_test : (same : Bool) → IsPossible (if same then told_by pdu.status pdu.body else None)
    by_test true = body_possible pdu.status pdu.body
    by_test false = tt
