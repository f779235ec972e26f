use Rattle.journal_laws.proofs.Worked.{at_last, is_journal}
use Rattle.journal_laws.proofs.laws.a_journal_is_worked.Goals as goal

pub returns : goal.returns
returns c quiet is = (λ node. at_last, is_journal quiet is)
