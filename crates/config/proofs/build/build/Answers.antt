use Rattle.std.proofs.Common.{◌∙◌, ◌≤◌, List, codes, sym, ap, subst, arith}
use Rattle.std.specs.List.{AllByRecursion}
use Rattle.toml.specs.Data.{Data, get}
use Rattle.toml.specs.View.{view}
use Rattle.octet_fields.specs.Texts.{IsText}
use Rattle.config.specs.declared.key.Key.TheVariants as keys
use Rattle.config.specs.Rows.{has_twice}
use Rattle.config.specs.Config.{number_at, text_at}
use Rattle.config.specs.Building.{AreNumbered, IsAccountRow, IsNodeRow, IsRouteRow}
use Rattle.config.proofs.Lists.{all_to_map}
use Rattle.config.proofs.Sound.{account_rows, accounts_once, node_numbers, node_rows, number_within, route_rows, routes_once, text_short}
use Rattle.config.proofs.build.build.Goals as goal

pub nodes_of-requires-clause-rows : goal.nodes_of-requires-clause-rows
nodes_of-requires-clause-rows c =
    all_to_map IsNodeRow view c.rows.result.now (subst (AllByRecursion IsNodeRow) (sym c.rows.ensures) (node_rows (view c.args.document.now) c.requires))

pub nodes_of-requires-clause-numbers : goal.nodes_of-requires-clause-numbers
nodes_of-requires-clause-numbers c = subst (λ (rows : List Data). AreNumbered rows) (sym c.rows.ensures) (node_numbers (view c.args.document.now) c.requires)

pub accounts_of-requires-clause-rows : goal.accounts_of-requires-clause-rows
accounts_of-requires-clause-rows c =
    all_to_map IsAccountRow view c.rows-2.result.now
    (subst (AllByRecursion IsAccountRow) (sym c.rows-2.ensures) (account_rows (view c.args.document.now) c.requires))

pub accounts_of-requires-clause-once : goal.accounts_of-requires-clause-once
accounts_of-requires-clause-once c =
    ap (λ (rows : List Data). has_twice (codes "system_id") rows) c.rows-2.ensures ∙ accounts_once (view c.args.document.now) c.requires

pub routes_of-requires-clause-rows : goal.routes_of-requires-clause-rows
routes_of-requires-clause-rows c =
    all_to_map IsRouteRow view c.rows-3.result.now (subst (AllByRecursion IsRouteRow) (sym c.rows-3.ensures) (route_rows (view c.args.document.now) c.requires))

pub routes_of-requires-clause-once : goal.routes_of-requires-clause-once
routes_of-requires-clause-once c =
    ap (λ (rows : List Data). has_twice (codes "prefix") rows) c.rows-3.ensures ∙ routes_once (view c.args.document.now) c.requires

pub short_text-requires : goal.short_text-requires
short_text-requires c =
    let text : IsText 16 (text_at (codes "system_id") (view c.args.document.now)) = text_short (get (codes "system_id") (view c.args.document.now)) 1 15 16 (omega arith) (c.requires.fit keys.SystemId).0 in
    (omega arith, text)

pub overflow_cast-result : goal.overflow_cast-result
overflow_cast-result c =
    let within : number_at 259200 (codes "default_validity") (view c.args.document.now) ≤ 31536000 =
    number_within (get (codes "default_validity") (view c.args.document.now)) 259200 1 31536000 31536000 (omega arith) (omega arith) (c.requires.fit keys.DefaultValidity).0 in
    omega (arith, within, c.number_at.ensures)

pub overflow_cast-result-2 : goal.overflow_cast-result-2
overflow_cast-result-2 c =
    let within : number_at 1 (codes "first_serial") (view c.args.document.now) ≤ 99999 =
    number_within (get (codes "first_serial") (view c.args.document.now)) 1 1 99999 99999 (omega arith) (omega arith) (c.requires.fit keys.FirstSerial).0 in
    omega (arith, within, c.number_at-2.ensures)
