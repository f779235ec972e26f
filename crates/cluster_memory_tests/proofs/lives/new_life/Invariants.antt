use Rattle.node_core.specs.Keeping.{kept_of}
use Rattle.journal_parts.specs.Numbers.{none_sent}
use Rattle.cluster_memory_tests.proofs.lives.new_life.Given as goal

abbrev pub ghosts-tried-L-Begins : goal.ghosts-tried-L-Begins
ghosts-tried-L-Begins g a = record {
  cluster = record {
    nodes = a.first.node.kept.setup.nodes;
    serials = λ node. a.first.node.kept.setup.first_serial;
    validities = λ node. a.first.node.kept.setup.default_validity;
  };
  kept = λ node. kept_of a.first.node.kept;
  numbers = none_sent;
}

abbrev pub ghosts-tried-L-Ledger : goal.ghosts-tried-L-Ledger
ghosts-tried-L-Ledger g a = record { name = a.first.blank.name; parts = a.first.blank.parts }
