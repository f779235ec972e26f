use Rattle.std.proofs.Common.{false, refl, ap, subst}
use Rattle.world.specs.Members.{HasForgotten}
use Rattle.world.specs.Runs.{IsSomewhere}
use Rattle.world.specs.Scenes.{Scene}
use Rattle.world.proofs.Restarting.{forgotten_somewhere}
use Rattle.world.proofs.world.World.forget_packets.Goals as goal

pub invariant_of-self : goal.invariant_of-self
invariant_of-self c =
    let old = c.args.self.now in
    let new : Scene = record { members = c.self.inside.members.items; packets = c.none.result.sent; fresh = false } in
    let forgot : HasForgotten old new = record { members = ap (λ (w : Scene). w.members) c.self.view_is; none = c.none.ensures; fresh = refl } in
    forgotten_somewhere old new forgot (subst (λ (w : Scene). IsSomewhere w) c.self.view_is c.self.invariant)
