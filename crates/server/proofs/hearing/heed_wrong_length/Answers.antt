use Rattle.esme_site.proofs.Askers.{ended_asks}
use Rattle.server.specs.Handing.{standing}
use Rattle.server.proofs.Handing.{one_request}
use Rattle.server.proofs.hearing.heed_wrong_length.Goals as goal

pub put_heard-requires : goal.put_heard-requires
put_heard-requires g c =
    ended_asks _ c.hear_wrong_length-heard.new.self c.args.number c.hear_wrong_length-heard.result c.hear_wrong_length-heard.ensures.heard
    c.hear_wrong_length-heard.ensures.after

pub returns : goal.returns
returns g c =
    one_request c.args.shift.now.station.now.node c.args.shift.now.shared.now.house.value.config.system_id
    (record { number = c.args.number; heard = c.hear_wrong_length-heard.result })
    (standing c.hear_wrong_length-heard.new.self c.args.seat.now.slips c.outlet-frames.result)
    (standing c.put_heard.new.site.service c.put_heard.new.seat.slips c.put_heard.new.frames) c.put_heard.result c.put_heard.ensures.comes
    c.put_heard.ensures.err
