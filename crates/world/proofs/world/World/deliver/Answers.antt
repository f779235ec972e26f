use Rattle.std.proofs.Common.{Ok, arith}
use Rattle.node_runs.specs.Input.TheVariants as inputs
use Rattle.world.proofs.Answering.{deliver_is, input_leads}
use Rattle.world.proofs.Placing.{taken_up}
use Rattle.world.proofs.world.World.deliver.Goals as goal

pub returns-in-Some-clause-leads : goal.returns-in-Some-clause-leads
returns-in-Some-clause-leads c =
    let old = c.args.self.now in
    let come = c.in-Some.ensures.taken in
    input_leads old c.take_quietly.new.self _ c.args.node (inputs.Packet come.packet)
    (deliver_is old c.args.number c.args.node come.packet come.addressed.packet_is) (Ok c.in-Some.given) (omega (arith, come.addressed.up.is.place_is))
    come.addressed.sent come.taken tt tt

pub returns-in-Some-clause-up : goal.returns-in-Some-clause-up
returns-in-Some-clause-up c =
    taken_up c.args.self.now c.take_quietly.new.self c.args.node (inputs.Packet c.in-Some.ensures.taken.packet) (Ok c.in-Some.given)
    c.in-Some.ensures.taken.taken
