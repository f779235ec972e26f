use Rattle.std.proofs.Common.{◌≡◌, Some, sym, rules}
use Rattle.toml.specs.Data.{as_array, get}
use Rattle.toml.specs.View.{view, items_view}
use Rattle.config.proofs.Lists.{listed_view}
use Rattle.config_warnings.proofs.tables.within.Goals as goal

pub returns-in-Some-as_array : goal.returns-in-Some-as_array
returns-in-Some-as_array c =
    let here : Some (view c.in-Some.value.now) ≡ get c.args.name.now (view c.args.document.now) = search rules in
    let array : Some (items_view c.in-Some-as_array.elements.now.items) ≡ as_array (view c.in-Some.value.now) = search rules in
    let items : c.as_slice.result.now ≡ c.in-Some-as_array.elements.now.items = search rules in
    rw (← here, ← array) (rw items (sym (listed_view c.in-Some-as_array.elements.now.items)))
