use Rattle.std.proofs.Common.{◌≡◌, ◌∙◌, Ok, Err, Some, get_or, ap, set, rules}
use Rattle.node_parts.specs.declared.listing.Listing.{Listing}
use Rattle.node_parts.specs.Sleeping.{dozed, ids_of, reach_noted}
use Rattle.node_parts.proofs.Looking.{absent, none_looked_at, one_looked_at}
use Rattle.node_parts.proofs.Listings.{placed}
use Rattle.node_parts.proofs.sleepers.doze_one.Goals as goal

pub returns-in-Ok-clause-live : goal.returns-in-Ok-clause-live
returns-in-Ok-clause-live c =
    let items = c.args.live.now.items in
    let look = dozed c.args.shelf.now.entries c.args.noted.now.me (reach_noted c.args.noted.now) (Some c.args.clock) in
    let at = placed items c.deref.result.now c.args.id c.number.result c.place_of.result (Ok c.in-Ok.place)
    c.deref.ensures.value c.number.ensures.value c.in-Ok.is c.place_of.ensures in
    let new : c.doze.new.listing ≡ look c.index_mut.result.now = search rules in
    let was : c.index_mut.result.now ≡ get_or items c.in-Ok.place c.index_mut.result.now = search rules in
    ap (λ (l : Listing). set items c.in-Ok.place l) (new ∙ ap look was)
    ∙ one_looked_at look items c.in-Ok.place c.args.id c.index_mut.result.now c.requires at.1.0

pub returns-in_default-clause-live : goal.returns-in_default-clause-live
returns-in_default-clause-live c =
    let items = c.args.live.now.items in
    let look = dozed c.args.shelf.now.entries c.args.noted.now.me (reach_noted c.args.noted.now) (Some c.args.clock) in
    let at = placed items c.deref.result.now c.args.id c.number.result c.place_of.result (Err c.in_default.field-0)
    c.deref.ensures.value c.number.ensures.value c.in_default.is c.place_of.ensures in
    none_looked_at look c.args.id items (absent (ids_of items) c.args.id c.in_default.field-0 c.requires at)
