use Rattle.stable_store.specs.Stored.{stored_in}
use Rattle.node_threads.specs.Openings.{AreNew}
use Rattle.thread_tests.proofs.openings.new_stores.Given as goal

abbrev pub invariant-loop : goal.invariant-loop
invariant-loop g l = AreNew (λ list. stored_in list 0) l.stores.items
