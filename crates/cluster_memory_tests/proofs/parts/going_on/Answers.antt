use Rattle.cluster_memory_tests.proofs.parts.going_on.Goals as goal

pub second_part-requires-clause-goes : goal.second_part-requires-clause-goes
second_part-requires-clause-goes g c =
    c.closed_journals_go_on.ensures.go g.L.Begins.cluster g.L.Begins.kept g.L.Begins.numbers c.loop.left (g.L.Begins.kept 1) c.loop.invariant
    (c.is_sound.ensures.0 c.if-not-is_sound.false)
