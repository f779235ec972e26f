use Rattle.std.proofs.Common.{refl}
use Rattle.node_runs.specs.Stops.{is_after}
use Rattle.world.proofs.Ending.{crash_leads, undelivered}
use Rattle.world.proofs.Going.{stays}
use Rattle.world.proofs.Placing.{keeps_all, stopped_up}
use Rattle.world.proofs.world.World.crash.Goals as goal

pub returns-in-Ok-clause-leads : goal.returns-in-Ok-clause-leads
returns-in-Ok-clause-leads c =
    let found = c.in-Ok.ensures.found in
    crash_leads c.args.self.now c.crash_at.new.self c.args.node c.args.number c.in-Ok.place c.in-Ok.packet c.args.found c.crash_at.result
    found.up.is.place_is found.packet_is found.up.member found.up.is found.up.up
    c.crash_at.ensures.stopped c.crash_at.ensures.fault c.crash_at.ensures.stays

pub returns-in-Err-clause-leads : goal.returns-in-Err-clause-leads
returns-in-Err-clause-leads c =
    let old = c.args.self.now in
    record {
      fresh = refl;
      each = λ cluster behind inputs now. record {
        refused = undelivered old c.args.number c.args.node c.in-Err.fault c.addressed.ensures.least c.in-Err.ensures.fault cluster behind inputs now;
        at = stays cluster behind inputs old now old (keeps_all old);
      };
    }

pub returns-in-Ok-clause-up : goal.returns-in-Ok-clause-up
returns-in-Ok-clause-up c =
    let found = c.in-Ok.ensures.found in
    stopped_up c.args.self.now c.crash_at.new.self c.args.node c.in-Ok.place c.in-Ok.packet (is_after c.args.found) c.crash_at.result
    found.up.is.place_is c.crash_at.ensures.stopped
