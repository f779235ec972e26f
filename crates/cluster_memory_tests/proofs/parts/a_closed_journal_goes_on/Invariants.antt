use Rattle.node_core.specs.Keeping.{kept_of}
use Rattle.journal_parts.specs.Numbers.{none_sent}
use Rattle.cluster_memory_tests.proofs.parts.a_closed_journal_goes_on.Given as goal

abbrev pub ghosts-both_parts-L-Begins : goal.ghosts-both_parts-L-Begins
ghosts-both_parts-L-Begins g a = record {
  cluster = record {
    nodes = a.first.node.kept.setup.nodes;
    serials = λ node. a.first.node.kept.setup.first_serial;
    validities = λ node. a.first.node.kept.setup.default_validity;
  };
  kept = λ node. kept_of a.first.node.kept;
  numbers = none_sent;
}

abbrev pub ghosts-both_parts-L-Ledger : goal.ghosts-both_parts-L-Ledger
ghosts-both_parts-L-Ledger g a = record { name = a.first.blank.name; parts = a.first.blank.parts }
