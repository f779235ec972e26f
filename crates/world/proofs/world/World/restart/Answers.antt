use Rattle.std.proofs.Common.{◌≡◌, ◌+◌, ◌-◌, arith}
use Rattle.world.proofs.Ending.{restart_leads}
use Rattle.world.proofs.Placing.{begun_up}
use Rattle.world.proofs.world.World.restart.Goals as goal

pub returns-clause-leads : goal.returns-clause-leads
returns-clause-leads c =
    let place_is : c.args.node ≡ (c.number.result - 1) + 1 = omega (arith, c.number.ensures.value, c.number.ensures.range) in
    restart_leads c.args.self.now c.restart_at.new.self c.args.node (c.number.result - 1) c.restart_at.result place_is
    c.restart_at.ensures.begun c.restart_at.ensures.refused c.restart_at.ensures.stays

pub returns-clause-up : goal.returns-clause-up
returns-clause-up c =
    let place_is : c.args.node ≡ (c.number.result - 1) + 1 = omega (arith, c.number.ensures.value, c.number.ensures.range) in
    begun_up c.args.self.now c.restart_at.new.self c.args.node (c.number.result - 1) c.restart_at.result place_is c.restart_at.ensures.begun
