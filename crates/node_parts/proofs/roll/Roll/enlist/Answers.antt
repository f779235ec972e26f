use Rattle.std.proofs.Common.{◌≡◌, get_or, sym, ap, subst, ◌∙◌, arith}
use Rattle.shelf.specs.Parted.{part_of}
use Rattle.node_parts.specs.Rising.{AreRising}
use Rattle.node_parts.specs.Sleeping.{ids_of}
use Rattle.node_parts.proofs.Rolled.{enlisted_ids, enlisted_parted, enlisted_woken, has_room, rises_in_part, room_in_part, same_width}
use Rattle.node_parts.proofs.roll.Roll.enlist.Goals as goal

pub index_mut-requires : goal.index_mut-requires
index_mut-requires c =
    let within = has_room c.self.inside.parts.items c.args.id c.self.invariant.number c.args.self.now c.self.view_is c.requires.room in
    let place = c.part_of.ensures ∙ ap part_of c.number.ensures.value in
    omega (arith, within, place)

pub enlist-requires-clause-rising : goal.enlist-requires-clause-rising
enlist-requires-clause-rising c =
    let parts = c.self.inside.parts.items in
    let within = has_room parts c.args.id c.self.invariant.number c.args.self.now c.self.view_is c.requires.room in
    let place = c.part_of.ensures ∙ ap part_of c.number.ensures.value in
    rises_in_part parts c.part_of.result c.index_mut.result.now (omega (arith, within, place)) c.index_mut.ensures.value
    (subst (λ e. AreRising (ids_of e.items)) (sym c.self.view_is) c.requires.rising)

pub enlist-requires-clause-room : goal.enlist-requires-clause-room
enlist-requires-clause-room c =
    let parts = c.self.inside.parts.items in
    let part = c.index_mut.result.now in
    let within = has_room parts c.args.id c.self.invariant.number c.args.self.now c.self.view_is c.requires.room in
    let place = c.part_of.ensures ∙ ap part_of c.number.ensures.value in
    let read : part ≡ get_or parts (part_of c.args.id) part = c.index_mut.ensures.value ∙ ap (λ n. get_or parts n part) place in
    room_in_part parts c.args.id part c.self.invariant within read
    (rw (← c.self.view_is) at c.requires.room)

pub invariant_of-self : goal.invariant_of-self
invariant_of-self c =
    let parts = c.self.inside.parts.items in
    let part = c.index_mut.result.now in
    let within = has_room parts c.args.id c.self.invariant.number c.args.self.now c.self.view_is c.requires.room in
    let place = c.part_of.ensures ∙ ap part_of c.number.ensures.value in
    let read : part ≡ get_or parts (part_of c.args.id) part = c.index_mut.ensures.value ∙ ap (λ n. get_or parts n part) place in
    rw place (enlisted_parted parts c.args.id part c.self.invariant within read c.enlist.new.live c.enlist.ensures.ids)

pub returns-clause-ids : goal.returns-clause-ids
returns-clause-ids c =
    let parts = c.self.inside.parts.items in
    let part = c.index_mut.result.now in
    let within = has_room parts c.args.id c.self.invariant.number c.args.self.now c.self.view_is c.requires.room in
    let place = c.part_of.ensures ∙ ap part_of c.number.ensures.value in
    let read : part ≡ get_or parts (part_of c.args.id) part = c.index_mut.ensures.value ∙ ap (λ n. get_or parts n part) place in
    rw (place, ← c.self.view_is) (enlisted_ids parts c.args.id part c.self.invariant within read c.enlist.new.live c.enlist.ensures.ids)

pub returns-clause-woken : goal.returns-clause-woken
returns-clause-woken c =
    let parts = c.self.inside.parts.items in
    let part = c.index_mut.result.now in
    let within = has_room parts c.args.id c.self.invariant.number c.args.self.now c.self.view_is c.requires.room in
    let place = c.part_of.ensures ∙ ap part_of c.number.ensures.value in
    let read : part ≡ get_or parts (part_of c.args.id) part = c.index_mut.ensures.value ∙ ap (λ n. get_or parts n part) place in
    rw (place, ← c.self.view_is) (enlisted_woken parts c.args.id part c.self.invariant within read c.enlist.new.live c.enlist.ensures.woken)

pub returns-clause-width : goal.returns-clause-width
returns-clause-width c =
    let parts = c.self.inside.parts.items in
    let within = has_room parts c.args.id c.self.invariant.number c.args.self.now c.self.view_is c.requires.room in
    let place = c.part_of.ensures ∙ ap part_of c.number.ensures.value in
    rw (← c.self.view_is)
    (same_width parts c.part_of.result c.index_mut.result.now (omega (arith, within, place)) c.index_mut.ensures.value c.enlist.new.live
    c.enlist.ensures.capacity)
