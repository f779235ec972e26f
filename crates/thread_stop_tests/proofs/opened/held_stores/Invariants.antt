use Rattle.stable_store.specs.Stored.{stored_in}
use Rattle.node_threads.specs.Openings.{AreNew}
use Rattle.thread_stop_tests.proofs.opened.held_stores.Given as goal

abbrev pub invariant-loop-save : goal.invariant-loop-save
invariant-loop-save g l = AreNew (λ store. stored_in store.store 0) l.stores.items
