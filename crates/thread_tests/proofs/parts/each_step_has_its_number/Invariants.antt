use Rattle.node_core.specs.Keeping.{kept_of}
use Rattle.journal_parts.specs.Numbers.{none_sent}
use Rattle.thread_tests.proofs.parts.each_step_has_its_number.Given as goal

abbrev pub ghosts-lived-L-Begins : goal.ghosts-lived-L-Begins
ghosts-lived-L-Begins g a = record {
  cluster = record {
    nodes = a.node.kept.setup.nodes;
    serials = λ node. a.node.kept.setup.first_serial;
    validities = λ node. a.node.kept.setup.default_validity;
  };
  kept = λ node. kept_of a.node.kept;
  numbers = none_sent;
}

abbrev pub ghosts-lived-L-Ledger : goal.ghosts-lived-L-Ledger
ghosts-lived-L-Ledger g a = record { name = a.blank.name; parts = a.blank.parts }
