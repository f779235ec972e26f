use Rattle.journal_tests.proofs.history.all_parts.Goals as goal

pub next_part-requires-clause-goes : goal.next_part-requires-clause-goes
next_part-requires-clause-goes g c κs within =
    let (kept, numbers, closed) = c.loop.invariant in
    c.closed_journals_go_on.ensures.go g.L.Begins.cluster kept numbers c.loop.journal (g.L.Begins.kept 1) closed
    (c.is_sound.ensures.0 c.if-not-is_sound.false)
