use Rattle.std.proofs.Common.{◌≡◌, false, rules}
use Rattle.accounts.specs.Routes.{has_route}
use Rattle.accounts.proofs.Longest.{distinct_more}
use Rattle.accounts.proofs.route.Routes.add.Goals as goal

pub invariant_of-self-2 : goal.invariant_of-self-2
invariant_of-self-2 c =
    let none : has_route c.self.inside.routes.items c.args.route.prefix ≡ false = search rules in
    rw c.in_ok-push.ensures.items (distinct_more c.self.inside.routes.items c.args.route c.self.invariant none)
