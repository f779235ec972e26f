use Rattle.std.proofs.Common.{sym, ap, ◌∙◌, subst, IsSome, arith}
use Rattle.std.specs.Box.{box_value}
use Rattle.shelf.specs.Shelved.{value_at}
use Rattle.shelf.specs.Parted.{part_of}
use Rattle.shelf.proofs.Rooms.{less_by_one, room_there_is, same_room}
use Rattle.shelf.proofs.Shelving.{ascends_in_part, has_part, put_is, read_at, still_in_parts, value_is}
use Rattle.shelf.proofs.shelf.Shelf.put.Goals as goal

pub index_mut-requires : goal.index_mut-requires
index_mut-requires g c =
    let within = has_part c.self.inside.parts.items c.args.key c.self.invariant.number c.args.self.now c.self.view_is c.requires in
    omega (arith, within, c.part_of.ensures)

pub put_in-requires-clause-ascends : goal.put_in-requires-clause-ascends
put_in-requires-clause-ascends g c =
    let parts = c.self.inside.parts.items in
    let within = has_part parts c.args.key c.self.invariant.number c.args.self.now c.self.view_is c.requires in
    ascends_in_part parts c.part_of.result c.index_mut.result.now (omega (arith, within, c.part_of.ensures)) c.index_mut.ensures.value c.self.invariant.ascend

pub put_in-requires-clause-room : goal.put_in-requires-clause-room
put_in-requires-clause-room g c none =
    let parts = c.self.inside.parts.items in
    let part = c.index_mut.result.now in
    let within = has_part parts c.args.key c.self.invariant.number c.args.self.now c.self.view_is c.requires in
    let read = read_at parts c.args.key c.part_of.result part c.part_of.ensures c.index_mut.ensures.value in
    let more = c.requires (rw (← c.self.view_is) (value_is parts c.args.key part c.self.invariant.lie within read ∙ none)) in
    let view = ap (λ s. s.room) c.self.view_is in
    let there = room_there_is parts (part_of c.args.key) part within read in
    omega (arith, more, view, there)

pub invariant_of-self : goal.invariant_of-self
invariant_of-self g c =
    let parts = c.self.inside.parts.items in
    let part = c.index_mut.result.now in
    let within = has_part parts c.args.key c.self.invariant.number c.args.self.now c.self.view_is c.requires in
    let read = read_at parts c.args.key c.part_of.result part c.part_of.ensures c.index_mut.ensures.value in
    rw c.part_of.ensures
    (still_in_parts parts c.args.key part c.self.invariant within read (box_value c.args.value) c.put_in.new.part c.put_in.ensures.entries)

pub returns-clause-entries : goal.returns-clause-entries
returns-clause-entries g c =
    let parts = c.self.inside.parts.items in
    let part = c.index_mut.result.now in
    let within = has_part parts c.args.key c.self.invariant.number c.args.self.now c.self.view_is c.requires in
    let read = read_at parts c.args.key c.part_of.result part c.part_of.ensures c.index_mut.ensures.value in
    rw (c.part_of.ensures, ← c.self.view_is)
    (put_is parts c.args.key part c.self.invariant.lie within read (box_value c.args.value) c.put_in.new.part c.put_in.ensures.entries)

pub returns-clause-room : goal.returns-clause-room
returns-clause-room g c =
    let parts = c.self.inside.parts.items in
    let within = has_part parts c.args.key c.self.invariant.number c.args.self.now c.self.view_is c.requires in
    rw (← c.self.view_is)
    (less_by_one parts c.part_of.result c.index_mut.result.now (omega (arith, within, c.part_of.ensures)) c.index_mut.ensures.value
    c.put_in.new.part c.put_in.ensures.room)

pub returns-clause-kept : goal.returns-clause-kept
returns-clause-kept g c some =
    let parts = c.self.inside.parts.items in
    let part = c.index_mut.result.now in
    let within = has_part parts c.args.key c.self.invariant.number c.args.self.now c.self.view_is c.requires in
    let read = read_at parts c.args.key c.part_of.result part c.part_of.ensures c.index_mut.ensures.value in
    let kept = c.put_in.ensures.kept
    (subst IsSome (sym (ap (λ s. value_at s.entries c.args.key) c.self.view_is) ∙ value_is parts c.args.key part c.self.invariant.lie within read) some) in
    rw (← c.self.view_is)
    (same_room parts c.part_of.result part (omega (arith, within, c.part_of.ensures)) c.index_mut.ensures.value c.put_in.new.part kept)
