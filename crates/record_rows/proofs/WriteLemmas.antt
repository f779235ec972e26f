-- What a statement that writes makes of a database, at its end and if it is stopped.
use Rattle.std.proofs.Common.{◌≡◌, inl, inr, ℕ, List, None, Ok, if◌then◌else◌, subst}
use Rattle.sqlite.specs.Order.{Row}
use Rattle.sqlite.specs.Tree.{Trees}
use Rattle.sqlite.specs.Schema.{Schema}
use Rattle.sqlite.specs.Command.{Command}
use Rattle.sqlite.specs.Command.TheVariants.{Commit, Release}
use Rattle.sqlite.specs.Effect.{Database, IsDatabase}
use Rattle.sqlite.specs.Does.{Tally, Does}
use Rattle.sqlite.specs.Listing.{understood}
use Rattle.sqlite.specs.State.{State, mode_of, Shows, Runs, Writes, Executes, MayCommit, CommitsBy}
use Rattle.sqlite.proofs.Callers.{IsPlain, command_of, statement_of, runs_as}
use Rattle.record_rows.proofs.StateLemmas.{commits_as}

-- the command changes rows or tables, and ends no transaction
pub record IsWrite (command : Command) : Type 1 where
  pub runs : (old new : State) (text : List ℕ) (params : Row) (count : ℕ) → Runs old new None command text params count
      → Writes old new None command text params count
  pub commit : command ≡ Commit → ⊥
  pub release : (name : List ℕ) → command ≡ Release name → ⊥

module _ (sql : List ℕ) (params : Row) (old : State) (schema : Schema) (has : old.now.schema ≡ schema) (command : Command) (is : command_of
    (understood schema sql) ≡ command) (plain : IsPlain (understood schema sql))
    (write : IsWrite command) where
  pub record Wrote (after : Database) : Type 0 where
    pub tally : Tally
    pub does : Does old.step_limit (mode_of old) params (record { schema = schema; trees = old.now.trees }) (statement_of sql
        (understood schema sql)) None command (Ok (tally, after))
    pub sound : IsDatabase after

  under : (tally : Tally) (after : Database) → Does old.step_limit (mode_of old) params old.now (statement_of sql
      (understood schema sql)) None command (Ok (tally, after))
      → Does old.step_limit (mode_of old) params (record { schema = schema; trees = old.now.trees }) (statement_of sql
      (understood schema sql)) None command (Ok (tally, after))
  under tally after h = subst (λ k. Does old.step_limit (mode_of old) params (record { schema = k; trees = old.now.trees }) (statement_of sql
      (understood schema sql)) None command (Ok (tally, after))) has h

  pub has_written : (new : State) (count : ℕ) → Executes sql params old new (Ok count) → Wrote new.now
      × Shows old new new.now (if old.in_transaction then old.committed else new.now) old.in_transaction
  has_written new count h =
      let w = write.runs old new (statement_of sql (understood schema sql)) params count (runs_as sql params old new schema has command is plain count h) in
      (record { tally = w.tally; does = under w.tally new.now w.changed; sound = w.sound }, w.shown)

  pub may_write : (db : Trees) → CommitsBy sql params old db → (after : Database) × Wrote after × (db ≡ after.trees)
  may_write db h = by_cause (commits_as sql params old schema has command is plain db h)
    where
      by_cause : MayCommit old None command (statement_of sql (understood schema sql)) params db → (after : Database) × Wrote after × (db ≡ after.trees)
      by_cause (inl (inl committed, same)) = absurd (write.commit committed)
      by_cause (inl (inr released, same)) = absurd (write.release released.0 released.2)
      by_cause (inr wrote) = (wrote.2, record { tally = wrote.1; does = under wrote.1 wrote.2 wrote.3; sound = wrote.4 }, wrote.5)
