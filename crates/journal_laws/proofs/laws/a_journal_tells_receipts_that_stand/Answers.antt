use Rattle.journal_laws.proofs.Telling.{all_receipts_stand}
use Rattle.journal_laws.proofs.laws.a_journal_tells_receipts_that_stand.Goals as goal

pub returns : goal.returns
returns c cluster behind inputs entries ends is = all_receipts_stand cluster behind inputs entries ends is
