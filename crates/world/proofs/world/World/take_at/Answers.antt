use Rattle.std.proofs.Common.{◌≡◌, List, false, refl, ap, subst, ◌∙◌}
use Rattle.std.proofs.Math.ListN.{set}
use Rattle.synod_acceptor.specs.declared.packet.Packet.{Packet}
use Rattle.node_runs.specs.Keeping.{kept_of}
use Rattle.node_runs.specs.Steps.{IsFault, refused_by}
use Rattle.world.specs.Members.{HasChanged, HasSent, HasTaken, IsUnmoved, Keeps}
use Rattle.world.specs.Runs.{IsSomewhere}
use Rattle.world.specs.Scenes.{Placed, Scene}
use Rattle.world.proofs.Placing.{kept_somewhere, keeps_one, same_member, taken_somewhere}
use Rattle.world.proofs.world.World.take_at.Goals as goal

pub invariant_of-self : goal.invariant_of-self
invariant_of-self c =
    let old = c.args.self.now in
    let place = c.args.place in
    let m = c.requires.up.member in
    let members : c.self.inside.members.items ≡ old.members = ap (λ (w : Scene). w.members) c.self.view_is in
    let same : c.index_mut.result.now ≡ m =
    same_member old c.self.inside.members.items place m c.index_mut.result.now members c.requires.up.is.found c.index_mut.ensures.value in
    let packets : c.self.inside.packets.sent ≡ old.packets = ap (λ (w : Scene). w.packets) c.self.view_is in
    let sent : HasSent m c.args.input old.packets c.in-Ok.given c.take.new.self c.take.new.packets.sent =
    subst (λ (ps : List Packet). HasSent m c.args.input ps c.in-Ok.given c.take.new.self c.take.new.packets.sent) packets
    (subst (λ (p : Placed). HasSent p c.args.input c.self.inside.packets.sent c.in-Ok.given c.take.new.self c.take.new.packets.sent) same
    c.in-Ok.ensures.taken) in
    let new : Scene = record { members = set c.self.inside.members.items place c.take.new.self; packets = c.take.new.packets.sent; fresh = false } in
    let changed : HasChanged old place c.take.new.self new =
    record { members = ap (λ (ms : List Placed). set ms place c.take.new.self) members; fresh = refl } in
    let has : HasTaken old c.args.node c.args.input c.in-Ok.given new =
    record { place = place; member = m; is = c.requires.up.is; up = c.requires.up.up; after = c.take.new.self; sent = sent; changed = changed } in
    taken_somewhere old new c.args.node c.args.input c.in-Ok.given c.requires.sent has
    (subst (λ (w : Scene). IsSomewhere w) c.self.view_is c.self.invariant)

pub returns-in-Ok-clause-taken : goal.returns-in-Ok-clause-taken
returns-in-Ok-clause-taken c =
    let old = c.args.self.now in
    let place = c.args.place in
    let m = c.requires.up.member in
    let members : c.self.inside.members.items ≡ old.members = ap (λ (w : Scene). w.members) c.self.view_is in
    let same : c.index_mut.result.now ≡ m =
    same_member old c.self.inside.members.items place m c.index_mut.result.now members c.requires.up.is.found c.index_mut.ensures.value in
    let packets : c.self.inside.packets.sent ≡ old.packets = ap (λ (w : Scene). w.packets) c.self.view_is in
    let sent : HasSent m c.args.input old.packets c.in-Ok.given c.take.new.self c.take.new.packets.sent =
    subst (λ (ps : List Packet). HasSent m c.args.input ps c.in-Ok.given c.take.new.self c.take.new.packets.sent) packets
    (subst (λ (p : Placed). HasSent p c.args.input c.self.inside.packets.sent c.in-Ok.given c.take.new.self c.take.new.packets.sent) same
    c.in-Ok.ensures.taken) in
    let new : Scene = record { members = set c.self.inside.members.items place c.take.new.self; packets = c.take.new.packets.sent; fresh = false } in
    let changed : HasChanged old place c.take.new.self new =
    record { members = ap (λ (ms : List Placed). set ms place c.take.new.self) members; fresh = refl } in
    record { place = place; member = m; is = c.requires.up.is; up = c.requires.up.up; after = c.take.new.self; sent = sent; changed = changed }

pub returns-in-Err-clause-refused : goal.returns-in-Err-clause-refused
returns-in-Err-clause-refused c =
    let old = c.args.self.now in
    let m = c.requires.up.member in
    let members : c.self.inside.members.items ≡ old.members = ap (λ (w : Scene). w.members) c.self.view_is in
    let same : c.index_mut.result.now ≡ m =
    same_member old c.self.inside.members.items c.args.place m c.index_mut.result.now members c.requires.up.is.found c.index_mut.ensures.value in
    record {
      place = c.args.place;
      member = m;
      is = c.requires.up.is;
      up = c.requires.up.up;
      cause = c.in-Err.fault;
      refused = subst (λ (p : Placed). IsFault (refused_by p.node.kept.setup (kept_of p.node.kept) c.args.input) c.in-Err.fault) same c.in-Err.ensures.faults;
      fault_is = c.from.ensures;
    }

pub returns-in-Err-clause-stays : goal.returns-in-Err-clause-stays
returns-in-Err-clause-stays c =
    let old = c.args.self.now in
    let m = c.requires.up.member in
    let members : c.self.inside.members.items ≡ old.members = ap (λ (w : Scene). w.members) c.self.view_is in
    let same : c.index_mut.result.now ≡ m =
    same_member old c.self.inside.members.items c.args.place m c.index_mut.result.now members c.requires.up.is.found c.index_mut.ensures.value in
    let new : Scene =
    record { members = set c.self.inside.members.items c.args.place c.take.new.self; packets = c.take.new.packets.sent; fresh = c.self.inside.fresh } in
    keeps_one old c.args.place m c.take.new.self new c.requires.up.is.found
    (subst (λ (p : Placed). IsUnmoved p c.take.new.self) same c.in-Err.ensures.stays)
    (ap (λ (ms : List Placed). set ms c.args.place c.take.new.self) members)
    (c.in-Err.ensures.sent ∙ ap (λ (w : Scene). w.packets) c.self.view_is)
    (ap (λ (w : Scene). w.fresh) c.self.view_is)

pub invariant_of-self-in-Err : goal.invariant_of-self-in-Err
invariant_of-self-in-Err c =
    let old = c.args.self.now in
    let m = c.requires.up.member in
    let members : c.self.inside.members.items ≡ old.members = ap (λ (w : Scene). w.members) c.self.view_is in
    let same : c.index_mut.result.now ≡ m =
    same_member old c.self.inside.members.items c.args.place m c.index_mut.result.now members c.requires.up.is.found c.index_mut.ensures.value in
    let new : Scene =
    record { members = set c.self.inside.members.items c.args.place c.take.new.self; packets = c.take.new.packets.sent; fresh = c.self.inside.fresh } in
    let stays : Keeps old new =
    keeps_one old c.args.place m c.take.new.self new c.requires.up.is.found
    (subst (λ (p : Placed). IsUnmoved p c.take.new.self) same c.in-Err.ensures.stays)
    (ap (λ (ms : List Placed). set ms c.args.place c.take.new.self) members)
    (c.in-Err.ensures.sent ∙ ap (λ (w : Scene). w.packets) c.self.view_is)
    (ap (λ (w : Scene). w.fresh) c.self.view_is) in
    kept_somewhere old new stays
    (subst (λ (w : Scene). IsSomewhere w) c.self.view_is c.self.invariant)
