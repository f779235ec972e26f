use Rattle.std.proofs.Common.{ap, sym, ◌∙◌, arith, Option}
use Rattle.accounts.specs.declared.route.Route.{Route}
use Rattle.accounts.specs.Routes.{better}
use Rattle.accounts.proofs.Longest.{route_more}
use Rattle.accounts.proofs.route.longest.Goals as goal

pub loop-route-preserved : goal.loop-route-preserved
loop-route-preserved c =
    c.better_of-best.ensures
    ∙ ap (λ (o : Option Route). better o c.route-item.result c.args.destination.now) c.loop-route.invariant
    ∙ sym (route_more c.args.routes.now c.loop-route.route-index c.route-item.result c.args.destination.now (omega arith) c.route-item.is)
