use Rattle.thread_tests.proofs.many_parts.parts.Goals as goal

pub next_part-journal-requires-clause-goes : goal.next_part-journal-requires-clause-goes
next_part-journal-requires-clause-goes g c =
    let (kept, numbers, closed) = c.loop.invariant in
    c.closed_journals_go_on.ensures.go g.L.Begins.cluster kept numbers c.loop.journal (g.L.Begins.kept 1) closed
    (c.is_sound.ensures.0 c.if-not-is_sound.false)
