-- What a statement leaves of a connection.
use Rattle.std.proofs.Common.{◌≡◌, inl, inr, ℕ, false, List, Option, Some, None, Err, IsTrue, sym, ap, subst, subst₂, ◌∙◌}
use Rattle.std.proofs.Common.{append-nil}
use Rattle.std.proofs.lemmas.Bool.{cases_Bool}
use Rattle.sqlite.specs.Order.{Row}
use Rattle.sqlite.specs.Tree.{Trees}
use Rattle.sqlite.specs.Schema.{Schema}
use Rattle.sqlite.specs.Command.{Command}
use Rattle.sqlite.specs.declared.error.Error.{Error}
use Rattle.sqlite.specs.Listing.{understood}
use Rattle.sqlite.specs.State.{State, Survives, IsUnchanged, IsRolledBack, IsNotRun, RunsCommand, shows_rows, ExecutesIn, Executes}
use Rattle.sqlite.specs.State.{MayCommit, CommitsBy, FailsToQuery, FailsToShow}
use Rattle.sqlite_schema.specs.declared.command.Returning.{Returning}
use Rattle.sqlite.specs.Clock.{timed}
use Rattle.sqlite.proofs.Callers.{IsPlain, command_of, statement_of}
use Rattle.sqlite.proofs.StateLemmas.{survives_then}
use Rattle.record_rows.specs.Tables.{Layout}
use Rattle.record_rows.specs.Ours.{IsSettled, IsOurs, Stands}

-- a command with a text that is plain commits as the command does
pub commits_as : (sql : List ℕ) (params : Row) (old : State) (schema : Schema) → old.now.schema ≡ schema → (command : Command)
    → command_of (understood schema sql) ≡ command → IsPlain (understood schema sql)
    → (db : Trees) → CommitsBy sql params old db → MayCommit old None command (statement_of sql (understood schema sql)) params db
unfolding CommitsBy
commits_as sql params old schema has command is plain db h =
    let known = sym h.1.is ∙ ap (λ s. understood s sql) has in
    let bare = subst IsPlain (sym known) plain in
    subst₂ (λ k t. MayCommit old None k t params db) (ap command_of known ∙ is) (ap (statement_of sql) known) (rw (bare.0, bare.1, append-nil params) at h.2)

-- ---- what an error leaves

pub unchanged_stands : (old new : State) → IsSettled old → IsUnchanged old new → Stands old new
unchanged_stands old new settled same = record {
  was_open = same.0.was_open;
  is_open = same.0.is_open;
  now = same.0.now_is;
  committed = same.0.committed_is;
  autocommit = same.0.mode ∙ settled.autocommit;
}

rolled_back_stands : (old new : State) → IsSettled old → IsTrue new.is_open → IsRolledBack old new → Stands old new
rolled_back_stands old new settled up back =
    let was = back.was_open up in
    record {
      was_open = was;
      is_open = up;
      now = (back.undone up).0
          ∙ sym (settled.committed was);
      committed = (back.undone up).1;
      autocommit = back.autocommit;
    }

not_run_stands : (old new : State) (sql : List ℕ) (params : Row) (e : Error) → IsSettled old → IsTrue new.is_open → IsNotRun old new sql params e
    → Stands old new
unfolding IsNotRun
not_run_stands old new sql params e settled up (inl same) = unchanged_stands old new settled same.1
not_run_stands old new sql params e settled up (inr failed) = rolled_back_stands old new settled up failed.3

-- A statement that is refused changes nothing, and one that fails is rolled back.
pub error_stands : (sql : List ℕ) (params : Row) (old new : State) (e : Error) → IsSettled old → IsTrue new.is_open
    → Executes sql params old new (Err e) → Stands old new
unfolding ExecutesIn
error_stands sql params old new e settled up (inl not) = not_run_stands old new sql params e settled up not
error_stands sql params old new e settled up (inr ran) = elim (cases_Bool (shows_rows false ran.0)) [
  | inl shows ↦ unchanged_stands old new settled (rw shows at ran.2).1
  | inr runs ↦ by_command (rw runs at ran.2)
]
  where
    by_command : RunsCommand old new sql ran.0 (timed params ran.0.formats ran.1.now) (Err e) → Stands old new
    by_command (inl refused) = unchanged_stands old new settled refused.1
    by_command (inr failed) = rolled_back_stands old new settled up failed.3

pub stands_then : (a b c : State) → Stands a b → IsUnchanged b c → Stands a c
stands_then a b c p q = record {
  was_open = p.was_open;
  is_open = q.0.is_open;
  now = q.0.now_is ∙ p.now;
  committed = q.0.committed_is ∙ p.committed;
  autocommit = q.0.mode ∙ p.autocommit;
}

pub ours_is_settled : (layout : Layout) (s : State) → IsOurs layout s → IsSettled s
ours_is_settled layout s ours = record { autocommit = ours.autocommit; committed = λ _. ours.committed }

-- ---- what a stop leaves

pub survives_as : (old new : State) (P Q : Trees → Type 0) → ((db : Trees) → P db → Q db) → Survives old new P → Survives old new Q
survives_as old new P Q so s = record {
  clean = s.clean;
  shield = s.shield;
  counts = s.counts;
  limit = s.limit;
  closes = s.closes;
  crash = λ clean db left. elim (s.crash clean db left) [ inl before ↦ inl before | inr after ↦ inr (so db after) ];
}

-- a call that may commit, and then one that commits nothing
pub survives_probed : (old mid new : State) (P : Trees → Type 0) → Survives old mid P → Survives mid new (λ _. ⊥) → Survives old new P
survives_probed old mid new P first last = survives_then old mid new P (λ _. ⊥) P (λ _ db it. it) (λ _ db none. absurd none) first last

-- a query that fails changes nothing, or is rolled back
pub query_error_stands : (sql : List ℕ) (params : Row) (old new : State) (e : Error) → IsSettled old → IsTrue new.is_open
    → FailsToQuery sql params old new e → Stands old new
unfolding FailsToQuery
query_error_stands sql params old new e settled up (inl not) = not_run_stands old new sql params e settled up not
query_error_stands sql params old new e settled up (inr failed) = by_returning failed.0.returning failed.2
  where
    by_command : (r : Row) → RunsCommand old new sql failed.0 r (Err e) → Stands old new
    by_command r (inl refused) = unchanged_stands old new settled refused.1
    by_command r (inr broke) = rolled_back_stands old new settled up broke.3

    by_returning : (shown : Option Returning) → FailsToShow old new sql failed.0 (timed params failed.0.formats failed.1.now) e shown → Stands old new
    by_returning None it = unchanged_stands old new settled it.3
    by_returning (Some what) it = by_command _ it
