use Rattle.server.specs.Openings.{cluster_of, kept_at}
use Rattle.server.specs.Numbers.{none_sent}
use Rattle.serve_runner.specs.Beginnings.{defaults_in}
use Rattle.serve_runner.proofs.running.serve_over.Given as goal

abbrev pub ghosts-serve-L-Begins : goal.ghosts-serve-L-Begins
ghosts-serve-L-Begins g a = record {
  cluster = cluster_of a.beginning.nodes.items (defaults_in a.settings.config);
  kept = kept_at a.beginning.nodes.items (defaults_in a.settings.config);
  numbers = none_sent;
}

abbrev pub ghosts-serve-L-Ledger : goal.ghosts-serve-L-Ledger
ghosts-serve-L-Ledger g a = record { name = a.beginning.blank.name; parts = a.beginning.blank.parts }
