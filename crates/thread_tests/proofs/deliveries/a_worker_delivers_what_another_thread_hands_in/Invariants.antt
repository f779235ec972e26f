use Rattle.node_core.specs.Keeping.{kept_of}
use Rattle.journal_parts.specs.Numbers.{none_sent}
use Rattle.thread_tests.proofs.deliveries.a_worker_delivers_what_another_thread_hands_in.Given as goal

abbrev pub ghosts-worked_beside-L-Begins : goal.ghosts-worked_beside-L-Begins
ghosts-worked_beside-L-Begins g a = record {
  cluster = record {
    nodes = a.opened.node.kept.setup.nodes;
    serials = λ node. a.opened.node.kept.setup.first_serial;
    validities = λ node. a.opened.node.kept.setup.default_validity;
  };
  kept = λ node. kept_of a.opened.node.kept;
  numbers = none_sent;
}

abbrev pub ghosts-worked_beside-L-Ledger : goal.ghosts-worked_beside-L-Ledger
ghosts-worked_beside-L-Ledger g a = record { name = a.opened.blank.name; parts = a.opened.blank.parts }
