use Rattle.std.proofs.Common.{◌≡◌, Some, rules}
use Rattle.toml.specs.Data.{as_array}
use Rattle.toml.specs.View.{view, items_view}
use Rattle.config.proofs.Lists.{empty_view}
use Rattle.config.proofs.checks.is_no_list.Goals as goal

pub returns-in-Some : goal.returns-in-Some
returns-in-Some c =
    let array : Some (items_view c.in-Some.elements.now.items) ≡ as_array (view c.args.value.now) = search rules in
    rw (← array, empty_view c.in-Some.elements.now.items) (search rules)
