use Rattle.mc_model.specs.cluster.Steps.{setup_of}
use Rattle.node_model.specs.Stepped.{opened_new}
use Rattle.journal_parts.specs.Numbers.{none_sent}
use Rattle.node_threads.specs.Defaults.{from_one}
use Rattle.node_threads.specs.Openings.{cluster_of}
use Rattle.thread_stop_tests.proofs.held_save.told.Given as goal

abbrev pub ghosts-told_meanwhile-L-Begins : goal.ghosts-told_meanwhile-L-Begins
ghosts-told_meanwhile-L-Begins g a = record {
  cluster = cluster_of a.nodes.items (from_one 172800);
  kept = λ node. opened_new (setup_of (cluster_of a.nodes.items (from_one 172800)) node);
  numbers = none_sent;
}

abbrev pub ghosts-told_meanwhile-L-Ledger : goal.ghosts-told_meanwhile-L-Ledger
ghosts-told_meanwhile-L-Ledger g a = record { name = a.blank.name; parts = a.blank.parts }
