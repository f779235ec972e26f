use Rattle.journal_laws.proofs.Reopened.{at_last, is_journal, told_deleted}
use Rattle.journal_laws.proofs.laws.a_journal_over_an_old_store_is_worked.Goals as goal

pub returns-clause-cancelled : goal.returns-clause-cancelled
returns-clause-cancelled c = told_deleted

pub returns-clause-journal : goal.returns-clause-journal
returns-clause-journal c quiet is telling tells up = (λ node. at_last quiet is telling tells up, is_journal quiet is telling tells up)
