use Rattle.std.proofs.Common.{◌≡◌, ◌+◌, ℕ, suc, subst, arith}
use Rattle.mc_model.specs.synod.Lists.{In}
use Rattle.waiting_requests.specs.Numbers.{IsLeastFrom, ids_in}
use Rattle.waiting_requests.specs.Queues.{timely}
use Rattle.waiting_requests.specs.Waiting.{held_in}
use Rattle.node_kept.proofs.kept.Kept.asked_behind.Goals as goal

pub returns-in-Some-clause-next : goal.returns-in-Some-clause-next
returns-in-Some-clause-next c is =
    let number : c.number.result + 1 ≡ suc c.args.id = omega (arith, c.number.ensures.value) in
    subst (λ (n : ℕ). IsLeastFrom n (λ other. In other
    (ids_in (timely c.args.clock (held_in c.args.self.now.queue)))) c.next_id.result) number c.next_id.ensures
