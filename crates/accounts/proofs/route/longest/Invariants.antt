use Rattle.std.proofs.Common.{◌≡◌, take}
use Rattle.std.specs.Option.{option_copied}
use Rattle.accounts.specs.Routes.{route_of}
use Rattle.accounts.proofs.route.longest.Given as goal

abbrev pub invariant-loop-route : goal.invariant-loop-route
invariant-loop-route l = option_copied l.best ≡ route_of (take l.route-index l.routes) l.destination
