use Rattle.std.specs.Prelude.{ℕ, IfSome}
use Rattle.node_workers.specs.GoingOn.{kept_in, numbers_behind}
use Rattle.node_workers.specs.Histories.{ClosesParts}
use Rattle.server.proofs.parts.serve_parts.Given as goal

abbrev pub invariant-loop : goal.invariant-loop
invariant-loop g l =
    IfSome l.last (λ journal. (parts : ℕ) × ClosesParts g.S.StableStore.stored g.L.Begins.cluster g.L.Begins.kept g.L.Begins.numbers parts journal)

abbrev pub ghosts-next_part-L-Begins : goal.ghosts-next_part-L-Begins
ghosts-next_part-L-Begins g a = record {
  cluster = g.L.Begins.cluster;
  kept = kept_in (g.L.Begins.kept 1) a.next.journal.posts;
  numbers = numbers_behind a.next.journal;
}

abbrev pub ghosts-next_part-L-Ledger : goal.ghosts-next_part-L-Ledger
ghosts-next_part-L-Ledger g a = record { name = a.next.blank.name; parts = a.next.blank.parts }
