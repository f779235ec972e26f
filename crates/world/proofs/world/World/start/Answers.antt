use Rattle.std.proofs.Common.{true}
use Rattle.world.specs.Scenes.{Scene}
use Rattle.world.proofs.Starting.{starts, starts_somewhere}
use Rattle.world.proofs.world.World.start.Goals as goal

pub invariant_of-result : goal.invariant_of-result
invariant_of-result c =
    let w : Scene = record { members = c.in_ok-opened.field-0.items; packets = c.none.result.sent; fresh = true } in
    starts_somewhere c.args.nodes c.args.first_serial c.args.default_validity w c.in_ok-opened.ensures c.none.ensures

pub returns-clause-stands : goal.returns-clause-stands
returns-clause-stands c =
    let w : Scene = record { members = c.in_ok-opened.field-0.items; packets = c.none.result.sent; fresh = true } in
    starts c.args.nodes c.args.first_serial c.args.default_validity w c.in_ok-opened.ensures c.none.ensures
