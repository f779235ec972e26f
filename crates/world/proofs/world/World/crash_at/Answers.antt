use Rattle.std.proofs.Common.{◌≡◌, List, false, refl, ap, subst}
use Rattle.std.proofs.Math.ListN.{set}
use Rattle.node_runs.specs.Stops.{is_after}
use Rattle.world.specs.Members.{HasChanged, HasCrashed, HasStopped, IsUnmoved, Keeps}
use Rattle.world.specs.Runs.{IsSomewhere}
use Rattle.world.specs.Scenes.{Placed, Scene}
use Rattle.world.proofs.Ending.{stopped_somewhere}
use Rattle.world.proofs.Placing.{kept_somewhere, keeps_one, same_member}
use Rattle.world.proofs.world.World.crash_at.Goals as goal

pub returns-in-Ok-clause-stopped : goal.returns-in-Ok-clause-stopped
returns-in-Ok-clause-stopped c =
    let old = c.args.self.now in
    let m = c.requires.up.member in
    let members : c.self.inside.members.items ≡ old.members = ap (λ (w : Scene). w.members) c.self.view_is in
    let same : c.index_mut.result.now ≡ m =
    same_member old c.self.inside.members.items c.args.place m c.index_mut.result.now members c.requires.up.is.found c.index_mut.ensures.value in
    let new : Scene = record { members = set c.self.inside.members.items c.args.place c.crash.new.self; packets = c.self.inside.packets.sent; fresh = false } in
    let changed : HasChanged old c.args.place c.crash.new.self new =
    record { members = ap (λ (ms : List Placed). set ms c.args.place c.crash.new.self) members; fresh = refl } in
    record {
      member = m;
      is = c.requires.up.is;
      up = c.requires.up.up;
      after = c.crash.new.self;
      crashed = subst (λ (p : Placed). HasCrashed p c.args.packet.now (is_after c.args.found) c.crash.new.self) same c.in-Ok.ensures.crashed;
      changed = changed;
      packets = ap (λ (w : Scene). w.packets) c.self.view_is;
      gives = c.nothing.ensures;
    }

pub invariant_of-self : goal.invariant_of-self
invariant_of-self c =
    let old = c.args.self.now in
    let m = c.requires.up.member in
    let members : c.self.inside.members.items ≡ old.members = ap (λ (w : Scene). w.members) c.self.view_is in
    let same : c.index_mut.result.now ≡ m =
    same_member old c.self.inside.members.items c.args.place m c.index_mut.result.now members c.requires.up.is.found c.index_mut.ensures.value in
    let new : Scene = record { members = set c.self.inside.members.items c.args.place c.crash.new.self; packets = c.self.inside.packets.sent; fresh = false } in
    let changed : HasChanged old c.args.place c.crash.new.self new =
    record { members = ap (λ (ms : List Placed). set ms c.args.place c.crash.new.self) members; fresh = refl } in
    let has : HasStopped old c.args.place c.args.packet.now (is_after c.args.found) c.nothing.result new = record {
      member = m;
      is = c.requires.up.is;
      up = c.requires.up.up;
      after = c.crash.new.self;
      crashed = subst (λ (p : Placed). HasCrashed p c.args.packet.now (is_after c.args.found) c.crash.new.self) same c.in-Ok.ensures.crashed;
      changed = changed;
      packets = ap (λ (w : Scene). w.packets) c.self.view_is;
      gives = c.nothing.ensures;
    } in
    stopped_somewhere old new c.args.place c.args.packet.now (is_after c.args.found) c.nothing.result c.requires.sent has
    (subst (λ (w : Scene). IsSomewhere w) c.self.view_is c.self.invariant)

pub returns-in-Err-clause-stays : goal.returns-in-Err-clause-stays
returns-in-Err-clause-stays c =
    let old = c.args.self.now in
    let m = c.requires.up.member in
    let members : c.self.inside.members.items ≡ old.members = ap (λ (w : Scene). w.members) c.self.view_is in
    let same : c.index_mut.result.now ≡ m =
    same_member old c.self.inside.members.items c.args.place m c.index_mut.result.now members c.requires.up.is.found c.index_mut.ensures.value in
    let new : Scene =
    record { members = set c.self.inside.members.items c.args.place c.crash.new.self; packets = c.self.inside.packets.sent; fresh = c.self.inside.fresh } in
    keeps_one old c.args.place m c.crash.new.self new c.requires.up.is.found
    (subst (λ (p : Placed). IsUnmoved p c.crash.new.self) same c.in-Err.ensures.stays)
    (ap (λ (ms : List Placed). set ms c.args.place c.crash.new.self) members)
    (ap (λ (w : Scene). w.packets) c.self.view_is)
    (ap (λ (w : Scene). w.fresh) c.self.view_is)

pub invariant_of-self-in-Err : goal.invariant_of-self-in-Err
invariant_of-self-in-Err c =
    let old = c.args.self.now in
    let m = c.requires.up.member in
    let members : c.self.inside.members.items ≡ old.members = ap (λ (w : Scene). w.members) c.self.view_is in
    let same : c.index_mut.result.now ≡ m =
    same_member old c.self.inside.members.items c.args.place m c.index_mut.result.now members c.requires.up.is.found c.index_mut.ensures.value in
    let new : Scene =
    record { members = set c.self.inside.members.items c.args.place c.crash.new.self; packets = c.self.inside.packets.sent; fresh = c.self.inside.fresh } in
    let stays : Keeps old new =
    keeps_one old c.args.place m c.crash.new.self new c.requires.up.is.found
    (subst (λ (p : Placed). IsUnmoved p c.crash.new.self) same c.in-Err.ensures.stays)
    (ap (λ (ms : List Placed). set ms c.args.place c.crash.new.self) members)
    (ap (λ (w : Scene). w.packets) c.self.view_is)
    (ap (λ (w : Scene). w.fresh) c.self.view_is) in
    kept_somewhere old new stays
    (subst (λ (w : Scene). IsSomewhere w) c.self.view_is c.self.invariant)
