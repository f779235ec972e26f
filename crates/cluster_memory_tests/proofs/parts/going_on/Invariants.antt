use Rattle.stable_store.specs.Stored.{stored_in}
use Rattle.journal_parts.specs.Closing.{IsClosed}
use Rattle.journal_parts.specs.GoingOn.{kept_in, numbers_behind}
use Rattle.cluster_memory_tests.proofs.parts.going_on.Given as goal

abbrev pub invariant-loop : goal.invariant-loop
invariant-loop g l = IsClosed (λ list. stored_in list 0) g.L.Begins.cluster g.L.Begins.kept g.L.Begins.numbers l.left

abbrev pub ghosts-second_part-L-Begins : goal.ghosts-second_part-L-Begins
ghosts-second_part-L-Begins g a = record {
  cluster = g.L.Begins.cluster;
  kept = kept_in (g.L.Begins.kept 1) a.next.journal.posts;
  numbers = numbers_behind a.next.journal;
}

abbrev pub ghosts-second_part-L-Ledger : goal.ghosts-second_part-L-Ledger
ghosts-second_part-L-Ledger g a = record { name = a.next.blank.name; parts = a.next.blank.parts }
