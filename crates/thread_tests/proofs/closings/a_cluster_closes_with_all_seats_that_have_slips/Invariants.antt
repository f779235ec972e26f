use Rattle.node_core.specs.Keeping.{kept_of}
use Rattle.journal_parts.specs.Numbers.{none_sent}
use Rattle.thread_tests.proofs.closings.a_cluster_closes_with_all_seats_that_have_slips.Given as goal

abbrev pub ghosts-closed_with_the_other-L-Begins : goal.ghosts-closed_with_the_other-L-Begins
ghosts-closed_with_the_other-L-Begins g a = record {
  cluster = record {
    nodes = a.node.kept.setup.nodes;
    serials = λ node. a.node.kept.setup.first_serial;
    validities = λ node. a.node.kept.setup.default_validity;
  };
  kept = λ node. kept_of a.node.kept;
  numbers = none_sent;
}

abbrev pub ghosts-closed_with_the_other-L-Ledger : goal.ghosts-closed_with_the_other-L-Ledger
ghosts-closed_with_the_other-L-Ledger g a = record { name = a.blank.name; parts = a.blank.parts }
