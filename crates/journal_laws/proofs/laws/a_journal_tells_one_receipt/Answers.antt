use Rattle.journal_laws.proofs.Telling.{tells_one_receipt}
use Rattle.journal_laws.proofs.laws.a_journal_tells_one_receipt.Goals as goal

pub returns : goal.returns
returns c cluster behind inputs entries ends is = tells_one_receipt cluster behind inputs entries ends is
