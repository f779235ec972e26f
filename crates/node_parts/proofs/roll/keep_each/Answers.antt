use Rattle.std.proofs.Common.{◌<◌, length, get_or, arith}
use Rattle.std.specs.Prelude.{filter}
use Rattle.std.proofs.lemmas.List.{get_or_default, with_items_is}
use Rattle.shelf.proofs.Changing.{changed_part, parts_changed}
use Rattle.node_parts.specs.Living.{is_kept_listed}
use Rattle.node_parts.proofs.roll.keep_each.Goals as goal

pub loop-part-preserved : goal.loop-part-preserved
loop-part-preserved c =
    let within : c.loop-part.part-index < length c.loop-part.part-items = omega (arith, c.loop-part.auto.part-items) in
    let part = get_or c.loop-part.part-items c.loop-part.part-index c.part-item.result in
    changed_part (filter (is_kept_listed c.args.shelf.now.entries)) c.args.parts.now.items c.loop-part.part-items c.loop-part.part-index part c.keep.new.live
    c.loop-part.invariant within (get_or_default c.loop-part.part-items c.loop-part.part-index c.part-item.result part within)
    c.keep.ensures.capacity c.keep.ensures.live

pub returns-clause-lists : goal.returns-clause-lists
returns-clause-lists c =
    rw (with_items_is c.args.parts.now c.loop-part.part-items (omega (arith, c.loop-part.auto.part-items)))
    (parts_changed (filter (is_kept_listed c.args.shelf.now.entries)) c.args.parts.now.items c.loop-part.part-items c.loop-part.part-index c.loop-part.invariant
    (omega arith))

pub returns-clause-widths : goal.returns-clause-widths
returns-clause-widths c =
    rw (with_items_is c.args.parts.now c.loop-part.part-items (omega (arith, c.loop-part.auto.part-items))) c.loop-part.invariant.widths
