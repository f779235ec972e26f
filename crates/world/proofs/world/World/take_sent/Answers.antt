use Rattle.std.proofs.Common.{◌≡◌, ℕ, zero, suc, ◌≤◌, List, Some, Result, Ok, Err, inr, refl, arith}
use Rattle.std.specs.Prelude.{IfErr, OnOk}
use Rattle.sim_net.specs.Network.{numbered}
use Rattle.node_runs.specs.Input.{Input}
use Rattle.node_runs.specs.Input.TheVariants as given
use Rattle.world.specs.declared.fault.WorldFault.{WorldFault}
use Rattle.world.specs.declared.given.Given.{Given}
use Rattle.world.specs.Members.{DoesNotTake, RefusesTo}
use Rattle.world.specs.Scenes.{Scene}
use Rattle.world.proofs.Answering.{deliver_is, input_leads}
use Rattle.world.proofs.Ending.{undelivered}
use Rattle.world.proofs.Going.{stays}
use Rattle.world.proofs.Placing.{keeps_all, taken_up}
use Rattle.world.proofs.world.World.take_sent.Goals as goal

refuses : (old : Scene) (node : _) (input : Input) (result : Result Given WorldFault) → IfErr result (RefusesTo old node input)
    → IfErr result (DoesNotTake old node input)
refuses old node input (Ok given) is = tt
refuses old node input (Err fault) is = inr is

pub returns-in-Ok-clause-leads : goal.returns-in-Ok-clause-leads
returns-in-Ok-clause-leads c =
    let old = c.args.self.now in
    let found = c.in-Ok.ensures.found in
    let input = given.Packet c.in-Ok.packet in
    input_leads old c.take_at.new.self _ c.args.node input (deliver_is old c.args.number c.args.node c.in-Ok.packet found.packet_is) c.take_at.result
    c.addressed.ensures.least found.sent c.take_at.ensures.taken (refuses old c.args.node input c.take_at.result c.take_at.ensures.refused)
    c.take_at.ensures.stays

pub returns-in-Err-clause-leads : goal.returns-in-Err-clause-leads
returns-in-Err-clause-leads c =
    let old = c.args.self.now in
    record {
      fresh = refl;
      each = λ cluster behind inputs now. record {
        refused = undelivered old c.args.number c.args.node c.in-Err.fault c.addressed.ensures.least c.in-Err.ensures.fault cluster behind inputs now;
        at = stays cluster behind inputs old now old (keeps_all old);
      };
    }

-- a packet with a number has one from 1 on
least_of : {A : Type 0} (xs : List A) (number : ℕ) (x : A) (result : Result Given WorldFault) → numbered xs number ≡ Some x → OnOk result (1 ≤ number)
least_of xs number x (Err fault) is = tt
least_of xs zero x (Ok given) is = absurd cc
least_of xs (suc place) x (Ok given) is = omega arith

pub returns-in-Ok-clause-least : goal.returns-in-Ok-clause-least
returns-in-Ok-clause-least c = least_of c.args.self.now.packets c.args.number c.in-Ok.packet c.take_at.result c.in-Ok.ensures.found.packet_is

pub returns-in-Ok-clause-up : goal.returns-in-Ok-clause-up
returns-in-Ok-clause-up c =
    taken_up c.args.self.now c.take_at.new.self c.args.node (given.Packet c.in-Ok.packet) c.take_at.result c.take_at.ensures.taken
