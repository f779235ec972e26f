use Rattle.journal_laws.proofs.Telling.{tells_one_fate}
use Rattle.journal_laws.proofs.laws.a_journal_tells_one_fate.Goals as goal

pub returns : goal.returns
returns c cluster behind inputs entries ends is = tells_one_fate cluster behind inputs entries ends is
