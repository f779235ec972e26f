use Rattle.std.proofs.Common.{arith}
use Rattle.shelf.proofs.Rooms.{room_kept, room_taken, wide_taken, widened_one}
use Rattle.shelf.proofs.parts.widen_parts.Goals as goal

pub loop-place-preserved : goal.loop-place-preserved
loop-place-preserved g c =
    widened_one c.args.parts.now.items c.loop-place.parts.items c.args.room.items c.loop-place.room.items c.loop-place.place
    c.index_mut.result.now c.index_mut-in-loop-place.result.now c.widen.new.items c.widen.new.room c.loop-place.invariant
    (omega arith) (omega arith) c.index_mut.ensures.value c.index_mut-in-loop-place.ensures.value c.widen.ensures.items c.widen.ensures.capacity

pub returns-clause-kept : goal.returns-clause-kept
returns-clause-kept g c =
    room_kept c.args.parts.now.items c.loop-place.parts.items c.loop-place.invariant.same c.loop-place.invariant.number c.loop-place.invariant.kept

pub returns-clause-room : goal.returns-clause-room
returns-clause-room g c as_many =
    room_taken c.args.parts.now.items c.loop-place.parts.items c.args.room.items c.loop-place.invariant.same c.loop-place.invariant.number
    (omega (arith, c.loop-place.invariant.number))
    (λ k within. c.loop-place.invariant.wide k (omega arith))

pub returns-clause-width : goal.returns-clause-width
returns-clause-width g c as_many =
    wide_taken c.args.parts.now.items c.loop-place.parts.items c.args.room.items c.loop-place.invariant.number
    (omega (arith, c.loop-place.invariant.number)) c.loop-place.invariant.kept
    (λ k within. c.loop-place.invariant.wide k (omega arith))
