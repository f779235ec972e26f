use Rattle.server.proofs.Begun.{another_part, begun_with, first_part, there_is}
use Rattle.server.proofs.parts.serve_parts.Goals as goal

pub loop-init : goal.loop-init
loop-init g c = first_part g.S.StableStore.stored g.L.Begins.cluster g.L.Begins.kept g.L.Begins.numbers c.part-last.result c.part-last.ensures

pub next_part-last-requires-clause-goes : goal.next_part-last-requires-clause-goes
next_part-last-requires-clause-goes g c κs within =
    let journal = c.in-Some-last.journal in
    let some = there_is g.S.StableStore.stored g.L.Begins.cluster g.L.Begins.kept g.L.Begins.numbers c.loop.last journal c.in-Some-last.is c.loop.invariant in
    let begun = begun_with g.S.StableStore.stored g.L.Begins.cluster g.L.Begins.kept g.L.Begins.numbers journal some in
    c.closed_journals_go_on.ensures.go g.L.Begins.cluster begun.0 begun.1 journal (g.L.Begins.kept 1) begun.2 (c.is_last.ensures c.if-is_last.false)

pub loop-preserved : goal.loop-preserved
loop-preserved g c =
    let journal = c.in-Some-last.journal in
    let some = there_is g.S.StableStore.stored g.L.Begins.cluster g.L.Begins.kept g.L.Begins.numbers c.loop.last journal c.in-Some-last.is c.loop.invariant in
    another_part g.S.StableStore.stored g.L.Begins.cluster g.L.Begins.kept g.L.Begins.numbers c.next_part-last.result journal (g.L.Begins.kept 1) some
    (c.is_last.ensures c.if-is_last.false) c.next_part-last.ensures
