use Rattle.node_core.specs.Keeping.{kept_of}
use Rattle.journal_parts.specs.Numbers.{none_sent}
use Rattle.thread_stop_tests.proofs.failed_saves.assert_seen.Given as goal

abbrev pub ghosts-seen-L-Begins : goal.ghosts-seen-L-Begins
ghosts-seen-L-Begins g a = record {
  cluster = record {
    nodes = a.node.kept.setup.nodes;
    serials = λ node. a.node.kept.setup.first_serial;
    validities = λ node. a.node.kept.setup.default_validity;
  };
  kept = λ node. kept_of a.node.kept;
  numbers = none_sent;
}

abbrev pub ghosts-seen-L-Ledger : goal.ghosts-seen-L-Ledger
ghosts-seen-L-Ledger g a = record { name = a.blank.name; parts = a.blank.parts }
