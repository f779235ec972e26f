use Rattle.std.proofs.Common.{◌≡◌, Ok, Err, None, sym, ap, subst, ◌∙◌, rules}
use Rattle.std.specs.List.{insert}
use Rattle.node_parts.specs.Sleeping.{ids_of}
use Rattle.node_parts.proofs.Listings.{AreWoken, placed, put_between, put_there, woken_between, woken_there}
use Rattle.node_parts.proofs.Rising.{rise_put}
use Rattle.node_parts.proofs.message_shelf.enlist.Goals as goal

pub returns-in-Ok-clause-ids : goal.returns-in-Ok-clause-ids
returns-in-Ok-clause-ids c =
    let items = c.args.live.now.items in
    put_there items c.in-Ok.place c.args.id (placed items c.deref.result.now c.args.id c.number.result c.place_of.result (Ok c.in-Ok.place)
    c.deref.ensures.value c.number.ensures.value c.in-Ok.is c.place_of.ensures)

pub returns-in-Ok-clause-woken : goal.returns-in-Ok-clause-woken
returns-in-Ok-clause-woken c =
    let items = c.args.live.now.items in
    woken_there items c.in-Ok.place c.args.id c.requires.rising
    (placed items c.deref.result.now c.args.id c.number.result c.place_of.result (Ok c.in-Ok.place)
    c.deref.ensures.value c.number.ensures.value c.in-Ok.is c.place_of.ensures)

pub returns-else-is_err-clause-ids : goal.returns-else-is_err-clause-ids
returns-else-is_err-clause-ids c =
    let items = c.args.live.now.items in
    let put : c.insert.new.self.items ≡ insert items c.in-Err.place (record { id = c.args.id; until = None }) = search rules in
    ap ids_of put
    ∙ put_between items c.in-Err.place c.args.id (placed items c.deref.result.now c.args.id c.number.result c.place_of.result (Err c.in-Err.place)
    c.deref.ensures.value c.number.ensures.value c.in-Err.is c.place_of.ensures)

pub returns-else-is_err-clause-woken : goal.returns-else-is_err-clause-woken
returns-else-is_err-clause-woken c =
    let items = c.args.live.now.items in
    let put : c.insert.new.self.items ≡ insert items c.in-Err.place (record { id = c.args.id; until = None }) = search rules in
    subst (AreWoken c.args.id items) (sym put)
    (woken_between items c.in-Err.place c.args.id (rise_put c.args.id (ids_of items) c.requires.rising)
    (placed items c.deref.result.now c.args.id c.number.result c.place_of.result (Err c.in-Err.place)
    c.deref.ensures.value c.number.ensures.value c.in-Err.is c.place_of.ensures))
