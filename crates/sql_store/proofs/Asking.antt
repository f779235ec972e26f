-- What asking a connection leaves of it that had no memory to answer.
use Rattle.std.proofs.Common.{inl, ℕ, List, IsTrue}
use Rattle.sqlite.specs.Order.{Row}
use Rattle.sqlite.specs.declared.error.Error.{Error}
use Rattle.sqlite.specs.State.{State, FailsToQuery, IsNotRun, IsUnchanged}
use Rattle.record_rows.specs.Ours.{IsSettled, Stands}
use Rattle.record_rows.proofs.StateLemmas.{query_error_stands, stands_then}

not_run_stands : (sql : List ℕ) (params : Row) (old new : State) (e : Error) → IsSettled old → IsTrue new.is_open → IsNotRun old new sql params e
    → Stands old new
unfolding FailsToQuery
not_run_stands sql params old new e settled up not = query_error_stands sql params old new e settled up (inl not)

-- it did not answer, and is asked again
pub asked_again_stands : (sql : List ℕ) (params : Row) (old mid new : State) (e : Error) → IsSettled old → IsNotRun old mid sql params e → IsUnchanged mid new
    → Stands old new
asked_again_stands sql params old mid new e settled not same = stands_then old mid new (not_run_stands sql params old mid e settled same.0.was_open not) same
