use Rattle.std.proofs.Common.{◌≡◌, Some, rules}
use Rattle.toml.specs.Data.{as_array}
use Rattle.toml.specs.View.{view, items_view}
use Rattle.config.proofs.Checked.{tables_view}
use Rattle.config.proofs.values.are_tables.Goals as goal

pub returns-in-Some : goal.returns-in-Some
returns-in-Some c =
    let here : Some (items_view c.in-Some.elements.now.items) ≡ as_array (view c.args.value.now) = search rules in
    rw (← here, tables_view c.in-Some.elements.now.items) (search rules)
