use Rattle.std.proofs.Common.{◌≡◌, map, take}
use Rattle.toml.specs.View.{view}
use Rattle.config.specs.Config.{account_at}
use Rattle.config.proofs.build.accounts_of.Given as goal

abbrev pub invariant-loop-row : goal.invariant-loop-row
invariant-loop-row l = l.accounts ≡ map account_at (map view (take l.row-index l.rows))
