use Rattle.node_threads.specs.Defaults.{from_one}
use Rattle.node_threads.specs.Numbers.{none_sent}
use Rattle.node_threads.specs.Openings.{cluster_of, kept_at}
use Rattle.sql_thread_tests.proofs.over_sql.rows_over_sql.Given as goal

abbrev pub ghosts-assert_row-L-Begins : goal.ghosts-assert_row-L-Begins
ghosts-assert_row-L-Begins g a = record {
  cluster = cluster_of a.opened.0.items (from_one 259200);
  kept = kept_at a.opened.0.items (from_one 259200);
  numbers = none_sent;
}

abbrev pub ghosts-assert_row-L-Ledger : goal.ghosts-assert_row-L-Ledger
ghosts-assert_row-L-Ledger g a = record { name = a.blank.name; parts = a.blank.parts }
