use Rattle.std.proofs.Common.{◌≡◌, Some, codes, refl, rules}
use Rattle.toml.specs.Data.{as_str, get}
use Rattle.toml.specs.View.{view}
use Rattle.config.proofs.Checked.{status_unfit}
use Rattle.config.proofs.own.status.Goals as goal

pub returns-in-None : goal.returns-in-None
returns-in-None c =
    let there : get (codes "status") (view c.args.table.now) ≡ Some (view c.in-Some.value.now) = search rules in
    let here : as_str (view c.in-Some.value.now) ≡ Some c.in-Some-as_str.text.now = search rules in
    (status_unfit (view c.args.table.now) (view c.in-Some.value.now) c.in-Some-as_str.text.now there here c.in-None.ensures, refl)
