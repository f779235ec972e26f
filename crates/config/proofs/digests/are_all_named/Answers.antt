use Rattle.toml.specs.View.{view}
use Rattle.config.proofs.Apart.{routes_fit}
use Rattle.config.proofs.digests.are_all_named.Goals as goal

pub returns-in-Ok : goal.returns-in-Ok
returns-in-Ok c = λ all.
    routes_fit (view c.args.document.now) c.rows-accounts.result.now c.rows.result.now c.rows-accounts.ensures c.rows.ensures (c.are_named.ensures all)
