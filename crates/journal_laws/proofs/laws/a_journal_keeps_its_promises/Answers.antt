use Rattle.journal_laws.proofs.Telling.{keeps_promises}
use Rattle.journal_laws.proofs.laws.a_journal_keeps_its_promises.Goals as goal

pub returns : goal.returns
returns c cluster behind inputs entries ends is = keeps_promises cluster behind inputs entries ends is
