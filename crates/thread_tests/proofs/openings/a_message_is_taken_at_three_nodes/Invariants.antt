use Rattle.mc_model.specs.cluster.Steps.{setup_of}
use Rattle.node_model.specs.Stepped.{opened_new}
use Rattle.node_threads.specs.Defaults.{from_one}
use Rattle.node_threads.specs.Openings.{cluster_of}
use Rattle.journal_parts.specs.Numbers.{none_sent}
use Rattle.thread_tests.proofs.openings.a_message_is_taken_at_three_nodes.Given as goal

abbrev pub ghosts-taken-L-Begins : goal.ghosts-taken-L-Begins
ghosts-taken-L-Begins g a = record {
  cluster = cluster_of a.nodes.items (from_one 172800);
  kept = λ node. opened_new (setup_of (cluster_of a.nodes.items (from_one 172800)) node);
  numbers = none_sent;
}

abbrev pub ghosts-taken-L-Ledger : goal.ghosts-taken-L-Ledger
ghosts-taken-L-Ledger g a = record { name = a.blank.name; parts = a.blank.parts }
