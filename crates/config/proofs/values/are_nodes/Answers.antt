use Rattle.std.proofs.Common.{◌≡◌, Some, rules, arith}
use Rattle.std.proofs.lemmas.Bool.Decides.{nat_tests}
use Rattle.toml.specs.Data.{as_array}
use Rattle.toml.specs.View.{view, items_view}
use Rattle.config.proofs.Checked.{tables_view, count_view}
use Rattle.config.proofs.values.are_nodes.Goals as goal

pub returns-then-len : goal.returns-then-len
returns-then-len c =
    let here : Some (items_view c.in-Some.elements.now.items) ≡ as_array (view c.args.value.now) = search rules in
    rw (← here, tables_view c.in-Some.elements.now.items, count_view c.in-Some.elements.now.items) (search rules)

pub returns-else-len : goal.returns-else-len
returns-else-len c =
    let here : Some (items_view c.in-Some.elements.now.items) ≡ as_array (view c.args.value.now) = search rules in
    rw (← here, tables_view c.in-Some.elements.now.items, count_view c.in-Some.elements.now.items) (grind (arith, nat_tests))
