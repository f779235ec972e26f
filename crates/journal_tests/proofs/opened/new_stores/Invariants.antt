use Rattle.stable_store.specs.Stored.{stored_in}
use Rattle.node_threads.specs.Openings.{AreNew}
use Rattle.journal_tests.proofs.opened.new_stores.Given as goal

abbrev pub invariant-loop-place : goal.invariant-loop-place
invariant-loop-place g l = AreNew (λ store. stored_in store.store store.failed) l.stores.items
