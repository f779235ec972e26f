use Rattle.node_parts.proofs.Listings.{first_behind}
use Rattle.node_parts.proofs.message_shelf.due_from.Goals as goal

pub returns-in-Ok : goal.returns-in-Ok
returns-in-Ok c =
    first_behind c.args.clock c.args.from c.args.live.now c.in-Ok.place c.first_due.result c.requires (rw c.in-Ok.is at c.place_of.ensures).1.1
    c.first_due.ensures

pub returns-in-Err : goal.returns-in-Err
returns-in-Err c =
    first_behind c.args.clock c.args.from c.args.live.now c.in-Err.place c.first_due-in-Err.result c.requires (rw c.in-Err.is at c.place_of.ensures).1
    c.first_due-in-Err.ensures
