use Rattle.journal_laws.proofs.Telling.{cancels_tell_deleted, grants_none_after_a_cancel}
use Rattle.journal_laws.proofs.laws.a_journal_deletes_what_is_cancelled.Goals as goal

pub returns-clause-deleted : goal.returns-clause-deleted
returns-clause-deleted c cluster behind inputs entries ends is = cancels_tell_deleted cluster behind inputs entries ends is

pub returns-clause-no_grant : goal.returns-clause-no_grant
returns-clause-no_grant c cluster behind inputs entries ends is = grants_none_after_a_cancel cluster behind inputs entries ends is
