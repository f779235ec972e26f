use Rattle.std.proofs.Common.{◌≡◌, map, take}
use Rattle.toml.specs.View.{view}
use Rattle.config.specs.Digests as spec
use Rattle.config.proofs.digests.digests.Given as goal

abbrev pub invariant-loop-row : goal.invariant-loop-row
invariant-loop-row l = l.digests.items ≡ map (λ row. spec.digest_in l.name (view row)) (take l.row-index l.rows)
