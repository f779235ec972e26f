use Rattle.std.proofs.Common.{refl, rules}
use Rattle.pdu_fields.proofs.Handling.{handling-in_pieces}
use Rattle.pdu_fields.proofs.handling_octets.handling_at.Goals as goal

pub returns-in_err-esm_class : goal.returns-in_err-esm_class
returns-in_err-esm_class c = rw (handling-in_pieces c.args.octets.now) (search rules)

pub returns-in_err-schedule_delivery_time : goal.returns-in_err-schedule_delivery_time
returns-in_err-schedule_delivery_time c = rw (handling-in_pieces c.args.octets.now) (search rules)

pub returns-in_err-validity_period : goal.returns-in_err-validity_period
returns-in_err-validity_period c = rw (handling-in_pieces c.args.octets.now) (search rules)

pub returns-in_err-registered_delivery : goal.returns-in_err-registered_delivery
returns-in_err-registered_delivery c = rw (handling-in_pieces c.args.octets.now) (search rules)

pub returns : goal.returns
returns c =
    rw (handling-in_pieces c.args.octets.now, c.in_ok-esm_class.ensures, c.in_ok-schedule_delivery_time.ensures.read)
    (rw (c.in_ok-validity_period.ensures.read, c.in_ok-registered_delivery.ensures) refl)
