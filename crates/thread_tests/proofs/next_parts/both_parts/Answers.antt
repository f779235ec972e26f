use Rattle.thread_tests.proofs.next_parts.both_parts.Goals as goal

pub second_part-requires-clause-goes : goal.second_part-requires-clause-goes
second_part-requires-clause-goes g c =
    c.closed_journals_go_on.ensures.go g.L.Begins.cluster g.L.Begins.kept g.L.Begins.numbers c.first_part-journal.result (g.L.Begins.kept 1)
    c.first_part-journal.ensures (c.is_sound.ensures.0 c.if-not-is_sound.false)
