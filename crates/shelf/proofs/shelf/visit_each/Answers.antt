use Rattle.std.proofs.Common.{rules, ◌<◌, length, slice_index_or, refl, ap, ◌∙◌, arith}
use Rattle.std.specs.Box as box
use Rattle.std.proofs.lemmas.List.{length-map, places, with_items_is}
use Rattle.shelf.specs.Places.{entries_of, entry_of}
use Rattle.shelf.proofs.Visited.{all_changed, visited, visited_one}
use Rattle.shelf.proofs.shelf.visit_each.Goals as goal

pub loop-entry-preserved : goal.loop-entry-preserved
loop-entry-preserved g c =
    let within : c.loop-entry.entry-index < length c.loop-entry.entry-items = omega (arith, c.loop-entry-test.true, c.loop-entry.auto.entry-items) in
    visited_one (g.F.Visit.leaves c.args.visit.now) c.loop-entry.entry-items (entries_of c.args.entries.now.items) c.loop-entry.entry-index c.entry-item.result
    (box.with_value (slice_index_or c.loop-entry.entry-items c.loop-entry.entry-index c.entry-item.result).1 c.visit.new.value)
    within c.loop-entry.invariant (c.visit.ensures ∙ ap (g.F.Visit.leaves c.args.visit.now) c.deref_mut.ensures.value)

pub returns-clause-entries : goal.returns-clause-entries
returns-clause-entries g c =
    let f = g.F.Visit.leaves c.args.visit.now in
    let old = entries_of c.args.entries.now.items in
    rw (with_items_is c.args.entries.now c.loop-entry.entry-items (search (rules, places)))
    (c.loop-entry.invariant
    ∙ all_changed (visited f) c.loop-entry.entry-index old
    (omega (arith, c.loop-entry-test.false, length-map c.args.entries.now.items entry_of)))

pub returns-clause-room : goal.returns-clause-room
returns-clause-room g c = refl
