use Rattle.std.proofs.Common.{◌<◌, true, refl, sym, subst, ◌∙◌, arith}
use Rattle.node_runs.proofs.Lists.{over_list}
use Rattle.world.specs.Members.{HasRestarted}
use Rattle.world.specs.Scenes.{Placed}
use Rattle.world.proofs.Sending.{lived, one_of}
use Rattle.world.proofs.Stopping.{has_restarted}
use Rattle.world.proofs.member.Member.restart.Goals as goal

pub returns-in-Ok-clause-restarted : goal.returns-in-Ok-clause-restarted
returns-in-Ok-clause-restarted c =
    let old : Placed = record { node = c.self.inside.node; up = c.self.inside.up } in
    let new : Placed = record { node = c.reopen.new.self; up = true } in
    let lives = lived c.self.inside.node c.self.inside.life c.in-Some.life (sym c.take.ensures.value ∙ c.in-Some.is) c.self.invariant.lives in
    let left : c.self.inside.node.kept.incarnation < 9999 = omega (arith, lives.start_is) in
    let opened = (over_list c.self.inside.node.store c.reopen.new.self.store 0 0 c.self.inside.node.kept.setup new.node c.in-Ok.life c.in-Ok.ensures.ok).opened in
    let restarted : HasRestarted old new =
    has_restarted old new c.in-Ok.life (one_of _ c.bounds.ensures.node c.bounds.ensures.setup) left c.lists.ensures.lists
    (c.lists.ensures.saved c.self.invariant.works) c.self.invariant.started opened refl in
    subst (λ (p : Placed). HasRestarted p new) c.self.view_is restarted
