use Rattle.journal_laws.proofs.Telling.{accepted_known, ids_known, queries_told}
use Rattle.journal_laws.proofs.laws.a_journal_answers_by_what_it_told.Goals as goal

pub returns-clause-told : goal.returns-clause-told
returns-clause-told c cluster behind inputs entries ends is = queries_told cluster behind inputs entries ends is

pub returns-clause-known : goal.returns-clause-known
returns-clause-known c cluster behind inputs entries ends is = accepted_known cluster behind inputs entries ends is

pub returns-clause-at_once : goal.returns-clause-at_once
returns-clause-at_once c cluster behind inputs entries ends is = ids_known cluster behind inputs entries ends is
