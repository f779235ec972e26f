use Rattle.std.proofs.Common.{◌<◌, length, get_or, arith}
use Rattle.std.proofs.lemmas.List.{get_or_default, with_items_is}
use Rattle.shelf.proofs.Visited.{all_visited, visited_part}
use Rattle.shelf.proofs.shelf.visit_parts.Goals as goal

pub loop-part-preserved : goal.loop-part-preserved
loop-part-preserved g c =
    let within : c.loop-part.part-index < length c.loop-part.part-items = omega (arith, c.loop-part.auto.part-items) in
    let part = get_or c.loop-part.part-items c.loop-part.part-index c.part-item.result in
    visited_part (g.F.Visit.leaves c.args.visit.now) c.args.parts.now.items c.loop-part.part-items c.loop-part.part-index part
    c.visit_each.new.entries c.loop-part.invariant within (get_or_default c.loop-part.part-items c.loop-part.part-index c.part-item.result part within)
    c.visit_each.ensures.room c.visit_each.ensures.entries

pub returns-clause-entries : goal.returns-clause-entries
returns-clause-entries g c =
    rw (with_items_is c.args.parts.now c.loop-part.part-items (omega (arith, c.loop-part.auto.part-items)))
    (all_visited (g.F.Visit.leaves c.args.visit.now) c.args.parts.now.items c.loop-part.part-items c.loop-part.part-index c.loop-part.invariant (omega arith))
