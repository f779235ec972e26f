use Rattle.node_core.specs.Keeping.{kept_of}
use Rattle.journal_parts.specs.Numbers.{none_sent}
use Rattle.thread_stop_tests.proofs.failed_groups.assert_seen.Given as goal

abbrev pub ghosts-seen_whole-L-Begins : goal.ghosts-seen_whole-L-Begins
ghosts-seen_whole-L-Begins g a = record {
  cluster = record {
    nodes = a.handed.node.kept.setup.nodes;
    serials = λ node. a.handed.node.kept.setup.first_serial;
    validities = λ node. a.handed.node.kept.setup.default_validity;
  };
  kept = λ node. kept_of a.handed.node.kept;
  numbers = none_sent;
}

abbrev pub ghosts-seen_whole-L-Ledger : goal.ghosts-seen_whole-L-Ledger
ghosts-seen_whole-L-Ledger g a = record { name = a.blank.name; parts = a.blank.parts }
