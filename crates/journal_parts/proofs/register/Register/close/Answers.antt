use Rattle.std.proofs.Common.{map, sym, subst, arith}
use Rattle.sim_net.proofs.Numbers.{map_length}
use Rattle.journal_parts.specs.Closing.{AllFound}
use Rattle.journal_parts.specs.Members.{posted}
use Rattle.journal_parts.specs.Registers.{Registered}
use Rattle.journal_parts.proofs.Closing.{closed}
use Rattle.journal_parts.proofs.register.Register.close.Goals as goal

pub invariant_of-result : goal.invariant_of-result
invariant_of-result g c = record { before = g.L.Begins.numbers.count; rise = c.self.invariant.0.rise; numbered = c.self.invariant.0.numbered }

pub returns-clause-closed : goal.returns-clause-closed
returns-clause-closed g c =
    let count = c.requires.count in
    let long = map_length posted c.args.posts.items in
    let found = subst (λ (r : Registered). AllFound g.S.StableStore.stored g.L.Begins.cluster g.L.Begins.kept r.entries 0 (map posted c.args.posts.items))
    (sym c.self.view_is) c.requires.found in
    closed g.S.StableStore.stored g.L.Begins.cluster g.L.Begins.kept g.L.Begins.numbers c.self.inside.noted.items c.self.inside.carried.items
    c.self.inside.sent (map posted c.args.posts.items) c.self.invariant.0 (omega (arith, count, long)) found
