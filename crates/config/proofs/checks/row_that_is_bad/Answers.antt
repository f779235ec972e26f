use Rattle.std.proofs.Common.{◌≡◌, map, rules}
use Rattle.toml.specs.View.{view}
use Rattle.config.specs.Keys.{part_of}
use Rattle.config.specs.Rows.{rows_of}
use Rattle.config.proofs.Checked.{unfit_here}
use Rattle.config.proofs.checks.row_that_is_bad.Goals as goal

pub returns : goal.returns
returns c =
    let are : map view c.rows.result.now ≡ rows_of (view c.args.document.now) (part_of c.args.key) = search rules in
    unfit_here (view c.args.document.now) c.args.key c.rows.result.now c.first_unfit.result are c.first_unfit.ensures
