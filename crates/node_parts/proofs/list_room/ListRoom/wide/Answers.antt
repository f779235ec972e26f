use Rattle.node_parts.proofs.Rolled.{first_wide}
use Rattle.std.proofs.Common.{arith}
use Rattle.node_parts.proofs.list_room.ListRoom.wide.Goals as goal

pub invariant_of-result : goal.invariant_of-result
invariant_of-result c =
    let first = first_wide c.in_ok-parts_of.field-0.items c.new.result c.args.room c.in_ok-parts_of.ensures.each c.in_ok-parts_of.ensures.width c.new.ensures.capacity in (
      c.in_ok-parts_of.ensures.number,
      (
        c.in_ok-parts_of.ensures.items,
        (
          omega (arith, first, c.in_ok-parts_of.ensures.width),
          omega (arith, first, c.in_ok-with_capacity.ensures.exact),
        ),
      ),
    )

pub returns-clause-room : goal.returns-clause-room
returns-clause-room c =
    let first = first_wide c.in_ok-parts_of.field-0.items c.new.result c.args.room c.in_ok-parts_of.ensures.each c.in_ok-parts_of.ensures.width c.new.ensures.capacity in
    omega (arith, first)
