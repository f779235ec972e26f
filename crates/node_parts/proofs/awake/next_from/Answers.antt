use Rattle.std.proofs.Common.{sym, subst}
use Rattle.mc_model.specs.synod.Lists.{In}
use Rattle.waiting_requests.specs.Numbers.{IsLeastFrom}
use Rattle.node_parts.proofs.IdLists.{least_at}
use Rattle.node_parts.proofs.awake.next_from.Goals as goal

pub returns-in-Ok : goal.returns-in-Ok
returns-in-Ok c =
    let ids = c.args.ids.now in
    subst (IsLeastFrom c.args.from (λ id. In id ids)) (sym c.at.ensures)
    (least_at ids c.args.from c.in-Ok.place c.requires (rw c.in-Ok.is at c.place_of.ensures).1.1)

pub returns-in-Err : goal.returns-in-Err
returns-in-Err c =
    let ids = c.args.ids.now in
    subst (IsLeastFrom c.args.from (λ id. In id ids)) (sym c.at-in-Err.ensures)
    (least_at ids c.args.from c.in-Err.place c.requires (rw c.in-Err.is at c.place_of.ensures).1)
