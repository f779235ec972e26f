use Rattle.std.proofs.Common.{◌≡◌, true, map, rules}
use Rattle.toml.specs.View.{view}
use Rattle.config.specs.Keys.{is_needed, part_of}
use Rattle.config.specs.Rows.{rows_of}
use Rattle.config.proofs.Checked.{missing_here}
use Rattle.config.proofs.checks.row_without.Goals as goal

pub returns : goal.returns
returns c =
    let needed : is_needed c.args.key ≡ true = search rules in
    let are : map view c.rows.result.now ≡ rows_of (view c.args.document.now) (part_of c.args.key) = search rules in
    missing_here (view c.args.document.now) c.args.key c.rows.result.now c.first_without.result needed are c.first_without.ensures
