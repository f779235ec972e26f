use Rattle.std.proofs.Common.{true, refl}
use Rattle.node_runs.proofs.Lists.{over_list}
use Rattle.world.specs.Scenes.{Placed}
use Rattle.world.proofs.Starting.{is_opened}
use Rattle.world.proofs.member.Member.open.Goals as goal

pub returns-in-Ok : goal.returns-in-Ok
returns-in-Ok c =
    let new : Placed = record { node = c.in-Ok.node; up = true } in
    is_opened c.args.setup c.make.result.entries c.make.result.started new c.in-Ok.life c.make.ensures.entries c.make.ensures.started refl
    (over_list c.make.result c.in-Ok.node.store 0 0 c.args.setup c.in-Ok.node c.in-Ok.life c.in-Ok.ensures.ok).opened
