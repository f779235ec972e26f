use Rattle.journal_parts.specs.GoingOn.{kept_in, numbers_behind}
use Rattle.thread_tests.proofs.next_parts.both_parts.Given as goal

abbrev pub ghosts-second_part-L-Begins : goal.ghosts-second_part-L-Begins
ghosts-second_part-L-Begins g a = record {
  cluster = g.L.Begins.cluster;
  kept = kept_in (g.L.Begins.kept 1) a.second.journal.posts;
  numbers = numbers_behind a.second.journal;
}

abbrev pub ghosts-second_part-L-Ledger : goal.ghosts-second_part-L-Ledger
ghosts-second_part-L-Ledger g a = record { name = a.second.blank.name; parts = a.second.blank.parts }
