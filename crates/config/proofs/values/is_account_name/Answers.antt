use Rattle.std.proofs.Common.{◌≡◌, Some, ◌∙◌, rules}
use Rattle.std.specs.List.{list_any}
use Rattle.toml.specs.Data.{as_str}
use Rattle.toml.specs.View.{view}
use Rattle.config.specs.Faults.{is_named}
use Rattle.config.specs.Rows.{rows_of}
use Rattle.config.specs.declared.key.Part.TheVariants.{Accounts}
use Rattle.config.proofs.Checked.{any_here}
use Rattle.config.proofs.values.is_account_name.Goals as goal

pub returns-in-Some : goal.returns-in-Some
returns-in-Some c =
    let here : Some c.in-Some.text.now ≡ as_str (view c.args.value.now) = search rules in
    let any : c.any_named.result ≡ list_any (is_named c.in-Some.text.now) (rows_of (view c.args.document.now) Accounts) =
    c.any_named.ensures ∙ any_here (is_named c.in-Some.text.now) c.rows.result.now (rows_of (view c.args.document.now) Accounts) c.rows.ensures in
    rw (← here, any) (search rules)
