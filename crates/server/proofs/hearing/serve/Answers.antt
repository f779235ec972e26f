use Rattle.std.proofs.Common.{ℕ, subst}
use Rattle.esme_service.specs.Settings.{settings_of}
use Rattle.esme_site.proofs.Askers.{heard_asks}
use Rattle.server.specs.Handing.{Serves, standing}
use Rattle.server.proofs.Handing.{one_request, serves_so}
use Rattle.server.proofs.hearing.serve.Goals as goal

pub put_heard-requires : goal.put_heard-requires
put_heard-requires g c =
    heard_asks c.args.site.now.service c.hear.new.self c.args.frame.now.number c.in_ok-heard.heard (settings_of c.deref.result.now.config)
    c.args.frame.now.octets.now c.in_ok-heard.ensures.heard c.in_ok-heard.ensures.after c.in_ok-heard.ensures.goes

pub returns-in_err-came-clause-one : goal.returns-in_err-came-clause-one
returns-in_err-came-clause-one g c =
    one_request c.args.shift.now.station.now.node c.args.shift.now.shared.now.house.value.config.system_id
    (record { number = c.args.frame.now.number; heard = c.in_ok-heard.heard }) (standing c.hear.new.self c.args.seat.now.slips c.args.frames.now)
    (standing c.put_heard.new.site.service c.put_heard.new.seat.slips c.put_heard.new.frames) c.put_heard.result c.put_heard.ensures.comes
    c.put_heard.ensures.err

pub returns-in_err-post_on-clause-one : goal.returns-in_err-post_on-clause-one
returns-in_err-post_on-clause-one g c =
    one_request c.args.shift.now.station.now.node c.args.shift.now.shared.now.house.value.config.system_id
    (record { number = c.args.frame.now.number; heard = c.in_ok-heard.heard }) (standing c.hear.new.self c.args.seat.now.slips c.args.frames.now)
    (standing c.put_heard.new.site.service c.put_heard.new.seat.slips c.put_heard.new.frames) c.put_heard.result c.put_heard.ensures.comes
    c.put_heard.ensures.err

pub returns-clause-serves : goal.returns-clause-serves
returns-clause-serves g c =
    subst (λ (now : ℕ). Serves c.args.shift.now.station.now.node (settings_of c.args.shift.now.shared.now.house.value.config) now c.args.frame.now.number
    c.args.frame.now.octets.now (standing c.args.site.now.service c.args.seat.now.slips c.args.frames.now)
    (standing c.post_on.new.service c.put_heard.new.seat.slips c.post_on.new.outlet) c.conclude-upshot.result.notice) c.clock-clock.ensures
    (serves_so c.args.shift.now.station.now.node (settings_of c.args.shift.now.shared.now.house.value.config) c.clock-clock.result c.args.frame.now.number
    c.args.frame.now.octets.now (standing c.args.site.now.service c.args.seat.now.slips c.args.frames.now) c.in_ok-heard.heard c.hear.new.self
    (rw c.deref.ensures at c.in_ok-heard.ensures.heard) (rw c.deref.ensures at c.in_ok-heard.ensures.after) c.in_ok-came.came
    c.put_heard.new.site.service c.conclude-upshot.new.site.service c.post_on.new.service c.put_heard.new.seat.slips c.put_heard.new.frames
    c.post_on.new.outlet c.conclude-upshot.result.notice c.in_ok-came.ensures.comes c.in_ok-came.ensures.put c.conclude-upshot.ensures.service
    c.in_ok-post_on.ensures.mail c.in_ok-post_on.ensures.put c.conclude-upshot.ensures.told)

pub returns-clause-one : goal.returns-clause-one
returns-clause-one g c =
    one_request c.args.shift.now.station.now.node c.args.shift.now.shared.now.house.value.config.system_id
    (record { number = c.args.frame.now.number; heard = c.in_ok-heard.heard }) (standing c.hear.new.self c.args.seat.now.slips c.args.frames.now)
    (standing c.put_heard.new.site.service c.put_heard.new.seat.slips c.put_heard.new.frames) c.put_heard.result c.put_heard.ensures.comes
    c.put_heard.ensures.err
