use Rattle.std.specs.Prelude.{ℕ}
use Rattle.node_model.specs.Kept.{Kept}
use Rattle.stable_store.specs.Stored.{stored_in}
use Rattle.journal_parts.specs.Closing.{IsClosed}
use Rattle.journal_parts.specs.GoingOn.{kept_in, numbers_behind}
use Rattle.journal_parts.specs.Numbers.{Numbers}
use Rattle.journal_tests.proofs.history.all_parts.Given as goal

abbrev pub invariant-loop : goal.invariant-loop
invariant-loop g l =
    (kept : ℕ → Kept) × (numbers : Numbers) × IsClosed (λ store. stored_in store.store store.failed) g.L.Begins.cluster kept numbers l.journal

abbrev pub ghosts-next_part-L-Begins : goal.ghosts-next_part-L-Begins
ghosts-next_part-L-Begins g a = record {
  cluster = g.L.Begins.cluster;
  kept = kept_in (g.L.Begins.kept 1) a.next.journal.posts;
  numbers = numbers_behind a.next.journal;
}

abbrev pub ghosts-next_part-L-Ledger : goal.ghosts-next_part-L-Ledger
ghosts-next_part-L-Ledger g a = record { name = a.next.blank.name; parts = a.next.blank.parts }
