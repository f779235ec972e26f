use Rattle.node_core.specs.Keeping.{kept_of}
use Rattle.journal_parts.specs.Numbers.{none_sent}
use Rattle.thread_stop_tests.proofs.full.a_journal_with_room_for_one_refuses_two_packets_at_once.Given as goal

abbrev pub ghosts-carried_when_full-L-Begins : goal.ghosts-carried_when_full-L-Begins
ghosts-carried_when_full-L-Begins g a = record {
  cluster = record {
    nodes = a.node.kept.setup.nodes;
    serials = λ node. a.node.kept.setup.first_serial;
    validities = λ node. a.node.kept.setup.default_validity;
  };
  kept = λ node. kept_of a.node.kept;
  numbers = none_sent;
}

abbrev pub ghosts-carried_when_full-L-Ledger : goal.ghosts-carried_when_full-L-Ledger
ghosts-carried_when_full-L-Ledger g a = record { name = a.blank.name; parts = a.blank.parts }
