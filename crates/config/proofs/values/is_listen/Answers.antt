use Rattle.std.proofs.Common.{◌≡◌, Some, rules}
use Rattle.toml.specs.Data.{as_str}
use Rattle.toml.specs.View.{view}
use Rattle.config.proofs.Checked.{listen_found}
use Rattle.config.proofs.values.is_listen.Goals as goal

pub returns-in-Some : goal.returns-in-Some
returns-in-Some c =
    let here : Some c.in-Some.text.now ≡ as_str (view c.args.value.now) = search rules in
    rw (← here, c.is_some.ensures) (listen_found c.in-Some.text.now c.read_listen.result c.read_listen.ensures)
