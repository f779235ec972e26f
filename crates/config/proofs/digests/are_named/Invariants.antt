use Rattle.std.proofs.Common.{map, take}
use Rattle.std.specs.List.{AllByRecursion}
use Rattle.toml.specs.View.{view}
use Rattle.config.specs.Digests as spec
use Rattle.config.proofs.digests.are_named.Given as goal

abbrev pub invariant-loop-route : goal.invariant-loop-route
invariant-loop-route l = AllByRecursion (λ route. spec.LeadsTo (map view l.accounts) (view route)) (take l.route-index l.routes)
