use Rattle.std.proofs.Common.{◌≡◌, ◌+◌, ℕ, suc, subst, arith}
use Rattle.node_parts.specs.Living.{IsNextBy, IsPassedIn}
use Rattle.node_kept.proofs.kept.Kept.live_behind.Goals as goal

pub returns-in-Some-clause-next : goal.returns-in-Some-clause-next
returns-in-Some-clause-next c is =
    let number : c.number.result + 1 ≡ suc c.args.id = omega (arith, c.number.ensures.value) in
    let messages = c.args.self.now.messages in
    subst (λ (n : ℕ). IsNextBy (IsPassedIn messages c.args.asleep.now c.args.may.now) messages.entries n c.next_due.result) number c.next_due.ensures
