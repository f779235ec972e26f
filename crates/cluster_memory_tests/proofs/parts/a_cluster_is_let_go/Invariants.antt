use Rattle.node_core.specs.Keeping.{kept_of}
use Rattle.journal_parts.specs.Numbers.{none_sent}
use Rattle.cluster_memory_tests.proofs.parts.a_cluster_is_let_go.Given as goal

abbrev pub ghosts-slips-L-Begins : goal.ghosts-slips-L-Begins
ghosts-slips-L-Begins g a = record {
  cluster = record {
    nodes = a.first.node.kept.setup.nodes;
    serials = λ node. a.first.node.kept.setup.first_serial;
    validities = λ node. a.first.node.kept.setup.default_validity;
  };
  kept = λ node. kept_of a.first.node.kept;
  numbers = none_sent;
}

abbrev pub ghosts-slips-L-Ledger : goal.ghosts-slips-L-Ledger
ghosts-slips-L-Ledger g a = record { name = a.first.blank.name; parts = a.first.blank.parts }
