use Rattle.server.proofs.Handing.{if_err, refusal_unput}
use Rattle.server.proofs.hearing.put_heard.Goals as goal

pub returns-in_err-respond-in-Err-Unasked-clause-err : goal.returns-in_err-respond-in-Err-Unasked-clause-err
returns-in_err-respond-in-Err-Unasked-clause-err g c =
    if_err c.from_residual.result _
    (refusal_unput c.args.shift.now.station.now.node c.args.on c.args.site.now.service c.heed.new.service c.args.seat.now c.heed.new.steps
    c.in-Err-Unasked.unasked (rw c.in-Err-Unasked.field-0-is at c.in-Err-Unasked.ensures.unasked) c.refusal-refusal.result c.refusal-refusal.ensures
    c.args.shift.now.shared.now.house.value.config.system_id c.args.frames.now c.heed.new.outlet c.respond.new.self
    (rw c.in-Err-Unasked.field-0-is at c.in-Err-Unasked.ensures.unput) c.in_err-respond-in-Err-Unasked.ensures.err)
