use Rattle.std.proofs.Common.{◌<◌, length, get_or, map, arith}
use Rattle.std.proofs.lemmas.List.{get_or_default, with_items_is}
use Rattle.shelf.proofs.Changing.{changed_part, parts_changed}
use Rattle.node_parts.specs.Sleeping.{dozed, reach_noted}
use Rattle.node_parts.proofs.roll.doze_parts.Goals as goal

pub loop-part-preserved : goal.loop-part-preserved
loop-part-preserved c =
    let within : c.loop-part.part-index < length c.loop-part.part-items = omega (arith, c.loop-part.auto.part-items) in
    let part = get_or c.loop-part.part-items c.loop-part.part-index c.part-item.result in
    let look = dozed c.args.shelf.now.entries c.args.noted.now.me (reach_noted c.args.noted.now) c.args.clock.now in
    changed_part (map look) c.args.parts.now.items c.loop-part.part-items c.loop-part.part-index part c.doze_each.new.live
    c.loop-part.invariant within (get_or_default c.loop-part.part-items c.loop-part.part-index c.part-item.result part within)
    c.doze_each.ensures.capacity c.doze_each.ensures.live

pub returns-clause-lists : goal.returns-clause-lists
returns-clause-lists c =
    let look = dozed c.args.shelf.now.entries c.args.noted.now.me (reach_noted c.args.noted.now) c.args.clock.now in
    rw (with_items_is c.args.parts.now c.loop-part.part-items (omega (arith, c.loop-part.auto.part-items)))
    (parts_changed (map look) c.args.parts.now.items c.loop-part.part-items c.loop-part.part-index c.loop-part.invariant (omega arith))

pub returns-clause-widths : goal.returns-clause-widths
returns-clause-widths c =
    rw (with_items_is c.args.parts.now c.loop-part.part-items (omega (arith, c.loop-part.auto.part-items))) c.loop-part.invariant.widths
