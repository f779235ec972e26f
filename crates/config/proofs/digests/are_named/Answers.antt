use Rattle.std.proofs.Common.{◌≡◌, ◌<◌, true, Some, codes, length, map, rules, ◌∙◌, arith}
use Rattle.std.specs.List.{list_any}
use Rattle.toml.specs.View.{view}
use Rattle.config.specs.Digests.{LeadsTo}
use Rattle.config.specs.Faults.{is_named}
use Rattle.config.specs.Rows.{text_in}
use Rattle.config.proofs.Lists.{all_more, any_of_map}
use Rattle.config.proofs.digests.are_named.Goals as goal

pub loop-route-preserved : goal.loop-route-preserved
loop-route-preserved c =
    let below : c.loop-route.route-index < length c.args.routes.now = omega arith in
    let name : Some c.in-Some.name.now ≡ text_in (codes "account") (view c.route-item.result) = search rules in
    let any : list_any (λ row. is_named c.in-Some.name.now (view row)) c.args.accounts.now ≡ true = search rules in
    let here : LeadsTo (map view c.args.accounts.now) (view c.route-item.result) =
    rw (← name) (any_of_map (is_named c.in-Some.name.now) view c.args.accounts.now ∙ any) in
    all_more (λ route. LeadsTo (map view c.args.accounts.now) (view route)) c.args.routes.now c.loop-route.route-index c.route-item.result below c.route-item.is here
    c.loop-route.invariant
