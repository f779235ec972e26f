use Rattle.std.proofs.Common.{◌≡◌, ◌∙◌, ◌<◌, true, ap, subst, Err, length, arith}
use Rattle.accounts.specs.declared.route.Route.{Route}
use Rattle.accounts.specs.declared.fault.AccountsFault.TheVariants as faults
use Rattle.accounts.specs.Routes.{has_route}
use Rattle.toml.specs.View.{view}
use Rattle.config.specs.Building.{IsRouteRow}
use Rattle.config.proofs.Built.{no_route_twice}
use Rattle.config.proofs.Lists.{all_at}
use Rattle.config.proofs.build.routes_of.Goals as goal

pub unreachable-requires : goal.unreachable-requires
unreachable-requires c =
    let below : c.loop-row.row-index < length c.args.rows.now = omega arith in
    let here : IsRouteRow (view c.row-item.result) = all_at
    (λ row. IsRouteRow (view row)) c.args.rows.now c.loop-row.row-index c.row-item.result below c.row-item.is c.requires.rows in
    let again : c.add.result ≡ Err faults.Repeated = c.in-Err-Repeated.is ∙ ap (λ fault. Err fault) c.in-Err-Repeated.field-0-is in
    let found : has_route c.loop-row.routes c.in_ok-route_of.field-0.prefix ≡ true = c.add.ensures.repeated.0 again in
    no_route_twice c.args.rows.now c.loop-row.row-index c.row-item.result c.loop-row.routes below c.row-item.is c.requires.rows here
    c.requires.once c.loop-row.invariant
    (subst (λ (r : Route). has_route c.loop-row.routes r.prefix ≡ true) c.in_ok-route_of.ensures found)
