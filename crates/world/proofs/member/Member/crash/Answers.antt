use Rattle.std.proofs.Common.{true, false, refl, sym, subst}
use Rattle.node_runs.specs.Found.{Found}
use Rattle.node_runs.specs.Stops.{is_after}
use Rattle.world.specs.Members.{HasCrashed, HasSaved}
use Rattle.world.specs.Scenes.{Placed}
use Rattle.world.proofs.Sending.{one_of}
use Rattle.world.proofs.Stopping.{crashed_after, crashed_before}
use Rattle.world.proofs.member.Member.crash.Goals as goal

pub returns-in-Before-clause-crashed : goal.returns-in-Before-clause-crashed
returns-in-Before-clause-crashed c =
    let old : Placed = record { node = c.self.inside.node; up = c.self.inside.up } in
    let new : Placed = record { node = c.self.inside.node; up = false } in
    let packet = c.args.packet.now in
    let crashed : HasCrashed old packet false new =
    crashed_before old new packet (one_of _ c.bounds.ensures.node c.bounds.ensures.setup) c.is_well_made.ensures c.lists.ensures.lists
    (c.lists.ensures.saved c.self.invariant.works) refl refl in
    subst (λ (f : Found). HasCrashed c.args.self.now packet (is_after f) new) (sym c.in-Before.is)
    (subst (λ (p : Placed). HasCrashed p packet false new) c.self.view_is crashed)

pub returns-in_ok-save-in-After-clause-crashed : goal.returns-in_ok-save-in-After-clause-crashed
returns-in_ok-save-in-After-clause-crashed c =
    let old : Placed = record { node = c.self.inside.node; up = c.self.inside.up } in
    let mid : Placed = record { node = c.self-in-After.inside.node; up = c.self-in-After.inside.up } in
    let new : Placed = record { node = c.self-in-After.inside.node; up = false } in
    let packet = c.args.packet.now in
    let saved : HasSaved old packet mid =
    subst (λ (p : Placed). HasSaved p packet mid) (sym c.self.view_is)
    (subst (λ (p : Placed). HasSaved c.args.self.now packet p) (sym c.self-in-After.view_is) c.in_ok-save-in-After.ensures.saved) in
    let crashed : HasCrashed old packet true new =
    crashed_after old mid new packet (one_of _ c.bounds.ensures.node c.bounds.ensures.setup) c.is_well_made.ensures c.lists.ensures.lists
    saved refl refl in
    subst (λ (f : Found). HasCrashed c.args.self.now packet (is_after f) new) (sym c.in-After.is)
    (subst (λ (p : Placed). HasCrashed p packet true new) c.self.view_is crashed)
