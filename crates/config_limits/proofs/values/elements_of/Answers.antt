use Rattle.std.proofs.Common.{◌≡◌, Some, sym, rules}
use Rattle.toml.specs.Data.{as_array}
use Rattle.toml.specs.View.{view, items_view}
use Rattle.config.proofs.Lists.{listed_view}
use Rattle.config_limits.proofs.values.elements_of.Goals as goal

pub returns-in-Some : goal.returns-in-Some
returns-in-Some c =
    let array : Some (items_view c.in-Some.elements.now.items) ≡ as_array (view c.args.value.now) = search rules in
    rw (← array) (rw c.as_slice.ensures.value (sym (listed_view c.in-Some.elements.now.items)))
