use Rattle.mc_model.specs.cluster.Steps.{setup_of}
use Rattle.node_model.specs.Stepped.{opened_new}
use Rattle.node_threads.specs.Defaults.{from_one}
use Rattle.node_threads.specs.Openings.{cluster_of}
use Rattle.journal_parts.specs.Numbers.{none_sent}
use Rattle.thread_tests.proofs.carried.assert_story.Given as goal

abbrev pub ghosts-entries-L-Begins : goal.ghosts-entries-L-Begins
ghosts-entries-L-Begins g a = record {
  cluster = cluster_of a.nodes.items (from_one 172800);
  kept = λ node. opened_new (setup_of (cluster_of a.nodes.items (from_one 172800)) node);
  numbers = none_sent;
}

abbrev pub ghosts-entries-L-Ledger : goal.ghosts-entries-L-Ledger
ghosts-entries-L-Ledger g a = record { name = a.blank.name; parts = a.blank.parts }
