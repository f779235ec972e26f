use Rattle.std.proofs.Common.{◌≡◌, ◌-◌, Some, ◌∙◌, rules, arith}
use Rattle.std.proofs.lemmas.Bool.Decides.{nat_tests}
use Rattle.std.specs.List.{list_any}
use Rattle.toml.specs.View.{view}
use Rattle.config.specs.Faults.{is_numbered}
use Rattle.config.specs.Rows.{as_number, rows_of}
use Rattle.config.specs.declared.key.Part.TheVariants.{Nodes}
use Rattle.config.proofs.Checked.{any_here}
use Rattle.config.proofs.values.is_node_number.Goals as goal

pub returns-else-number-eq1 : goal.returns-else-number-eq1
returns-else-number-eq1 c =
    let here : Some c.in-Some.number ≡ as_number (view c.args.value.now) = search rules in
    let any : c.any_numbered.result ≡ list_any (is_numbered (c.in-Some.number - 1)) (rows_of (view c.args.document.now) Nodes) =
    c.any_numbered.ensures ∙ any_here (is_numbered (c.in-Some.number - 1)) c.rows.result.now (rows_of (view c.args.document.now) Nodes) c.rows.ensures in
    rw (← here, any) (grind (arith, nat_tests))
