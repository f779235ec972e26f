use Rattle.journal_laws.proofs.Telling.{grants_nothing_after}
use Rattle.journal_laws.proofs.laws.a_journal_grants_nothing_after_a_fate.Goals as goal

pub returns : goal.returns
returns c cluster behind inputs entries ends is = grants_nothing_after cluster behind inputs entries ends is
