use Rattle.node_core.specs.Keeping.{kept_of}
use Rattle.journal_parts.specs.Numbers.{none_sent}
use Rattle.thread_stop_tests.proofs.failed_groups.the_claims_of_a_group_whose_save_failed_are_given_back.Given as goal

abbrev pub ghosts-entries_when_full-L-Begins : goal.ghosts-entries_when_full-L-Begins
ghosts-entries_when_full-L-Begins g a = record {
  cluster = record {
    nodes = a.handed.node.kept.setup.nodes;
    serials = λ node. a.handed.node.kept.setup.first_serial;
    validities = λ node. a.handed.node.kept.setup.default_validity;
  };
  kept = λ node. kept_of a.handed.node.kept;
  numbers = none_sent;
}

abbrev pub ghosts-entries_when_full-L-Ledger : goal.ghosts-entries_when_full-L-Ledger
ghosts-entries_when_full-L-Ledger g a = record { name = a.blank.name; parts = a.blank.parts }
