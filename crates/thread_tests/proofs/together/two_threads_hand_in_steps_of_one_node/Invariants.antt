use Rattle.node_core.specs.Keeping.{kept_of}
use Rattle.journal_parts.specs.Numbers.{none_sent}
use Rattle.thread_tests.proofs.together.two_threads_hand_in_steps_of_one_node.Given as goal

abbrev pub ghosts-ticked_by_two-L-Begins : goal.ghosts-ticked_by_two-L-Begins
ghosts-ticked_by_two-L-Begins g a = record {
  cluster = record {
    nodes = a.node.kept.setup.nodes;
    serials = λ node. a.node.kept.setup.first_serial;
    validities = λ node. a.node.kept.setup.default_validity;
  };
  kept = λ node. kept_of a.node.kept;
  numbers = none_sent;
}

abbrev pub ghosts-ticked_by_two-L-Ledger : goal.ghosts-ticked_by_two-L-Ledger
ghosts-ticked_by_two-L-Ledger g a = record { name = a.blank.name; parts = a.blank.parts }
