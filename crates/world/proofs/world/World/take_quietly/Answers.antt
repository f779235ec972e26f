use Rattle.std.proofs.Common.{◌≡◌, List, Some, false, ap, sym, subst}
use Rattle.std.proofs.Math.ListN.{set}
use Rattle.mc_model.specs.synod.Lists.{In}
use Rattle.sim_net.specs.Network.{numbered}
use Rattle.synod_acceptor.specs.declared.packet.Packet.{Packet}
use Rattle.node_runs.specs.Input.TheVariants as inputs
use Rattle.world.specs.Members.{HasTaken}
use Rattle.world.specs.Runs.{IsSomewhere}
use Rattle.world.specs.Scenes.{Scene}
use Rattle.world.proofs.Placing.{taken_quietly, taken_somewhere}
use Rattle.world.proofs.world.World.take_quietly.Goals as goal

pub invariant_of-self-2 : goal.invariant_of-self-2
invariant_of-self-2 c =
    let old = c.args.self.now in
    let packets : c.self.inside.packets.sent ≡ old.packets = ap (λ (w : Scene). w.packets) c.self.view_is in
    let new : Scene = record {
      members = set c.self.inside.members.items c.in-Ok.place c.take_quietly.new.self;
      packets = c.self.inside.packets.sent;
      fresh = false;
    } in
    let has : HasTaken old c.args.node (inputs.Packet c.in_ok-packet.packet.now) c.nothing.result new =
    taken_quietly old c.self.inside.members.items c.self.inside.packets.sent c.args.node c.in-Ok.place c.index_mut.result.now c.take_quietly.new.self
    c.in_ok-packet.packet.now c.nothing.result c.in-Ok.ensures.place (ap (λ (w : Scene). w.members) c.self.view_is) packets c.index_mut.ensures.value
    (c.take_quietly.ensures.taken c.if-not-take_quietly.false) c.nothing.ensures in
    taken_somewhere old new c.args.node (inputs.Packet c.in_ok-packet.packet.now) c.nothing.result
    (subst (λ (ps : List Packet). In c.in_ok-packet.packet.now ps) packets c.in_ok-packet.ensures.sent) has
    (subst (λ (w : Scene). IsSomewhere w) c.self.view_is c.self.invariant)

pub returns-clause-taken : goal.returns-clause-taken
returns-clause-taken c =
    let old = c.args.self.now in
    let packets : c.self.inside.packets.sent ≡ old.packets = ap (λ (w : Scene). w.packets) c.self.view_is in
    record {
      packet = c.in_ok-packet.packet.now;
      place = c.in-Ok.place;
      addressed = record {
        up = c.in-Ok.ensures.place;
        packet_is = subst (λ (ps : List Packet). numbered ps c.args.number ≡ Some c.in_ok-packet.packet.now) packets (sym c.in_ok-packet.ensures.packet);
        sent = subst (λ (ps : List Packet). In c.in_ok-packet.packet.now ps) packets c.in_ok-packet.ensures.sent;
      };
      taken = taken_quietly old c.self.inside.members.items c.self.inside.packets.sent c.args.node c.in-Ok.place c.index_mut.result.now c.take_quietly.new.self
          c.in_ok-packet.packet.now c.nothing.result c.in-Ok.ensures.place (ap (λ (w : Scene). w.members) c.self.view_is) packets c.index_mut.ensures.value
          (c.take_quietly.ensures.taken c.if-not-take_quietly.false) c.nothing.ensures;
    }
