use Rattle.std.proofs.Common.{◌≡◌, None, sym, subst, rules}
use Rattle.mc_model.specs.synod.Lists.{In}
use Rattle.waiting_requests.specs.Numbers.{IsLeastFrom, ids_in, least_of}
use Rattle.waiting_requests.specs.Queues.{timely}
use Rattle.waiting_requests.specs.Waiting.{held_in}
use Rattle.waiting_requests.proofs.Numbers.{least_is}
use Rattle.waiting_requests.proofs.queue.Queue.next_id.Goals as goal

pub returns : goal.returns
returns c =
    let held = timely c.args.clock (held_in c.args.self.now) in
    let found : c.next_id.result ≡ least_of c.args.from held None = search rules in
    subst (IsLeastFrom c.args.from (λ id. In id (ids_in held))) (sym found) (least_is c.args.from held)
