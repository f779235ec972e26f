use Rattle.mc_model.specs.cluster.Steps.{setup_of}
use Rattle.node_model.specs.Stepped.{opened_new}
use Rattle.journal_parts.specs.Numbers.{none_sent}
use Rattle.node_threads.specs.Defaults.{from_one}
use Rattle.node_threads.specs.Openings.{cluster_of}
use Rattle.thread_tests.proofs.held_delivery.events.Given as goal

abbrev pub ghosts-journal_of-L-Begins : goal.ghosts-journal_of-L-Begins
ghosts-journal_of-L-Begins g a = record {
  cluster = cluster_of a.nodes.items (from_one 172800);
  kept = λ node. opened_new (setup_of (cluster_of a.nodes.items (from_one 172800)) node);
  numbers = none_sent;
}

abbrev pub ghosts-journal_of-L-Ledger : goal.ghosts-journal_of-L-Ledger
ghosts-journal_of-L-Ledger g a = record { name = a.blank.name; parts = a.blank.parts }
