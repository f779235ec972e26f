use Rattle.node_core.specs.Keeping.{kept_of}
use Rattle.journal_parts.specs.Numbers.{none_sent}
use Rattle.thread_tests.proofs.many_parts.parts_of_new.Given as goal

abbrev pub ghosts-parts-L-Begins : goal.ghosts-parts-L-Begins
ghosts-parts-L-Begins g a = record {
  cluster = record {
    nodes = a.first.node.kept.setup.nodes;
    serials = λ node. a.first.node.kept.setup.first_serial;
    validities = λ node. a.first.node.kept.setup.default_validity;
  };
  kept = λ node. kept_of a.first.node.kept;
  numbers = none_sent;
}

abbrev pub ghosts-parts-L-Ledger : goal.ghosts-parts-L-Ledger
ghosts-parts-L-Ledger g a = record { name = a.first.blank.name; parts = a.first.blank.parts }
