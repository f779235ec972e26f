use Rattle.node_threads.specs.Defaults.{from_one}
use Rattle.node_threads.specs.Numbers.{none_sent}
use Rattle.node_threads.specs.Openings.{cluster_of, kept_at}
use Rattle.sql_thread_tests.proofs.beside.rows_beside_a_thread_that_asks.Given as goal

abbrev pub ghosts-journal_of-L-Begins : goal.ghosts-journal_of-L-Begins
ghosts-journal_of-L-Begins g a = record {
  cluster = cluster_of a.opened.0.items (from_one 259200);
  kept = kept_at a.opened.0.items (from_one 259200);
  numbers = none_sent;
}

abbrev pub ghosts-journal_of-L-Ledger : goal.ghosts-journal_of-L-Ledger
ghosts-journal_of-L-Ledger g a = record { name = a.blank.name; parts = a.blank.parts }
