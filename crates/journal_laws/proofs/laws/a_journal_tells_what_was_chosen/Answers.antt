use Rattle.journal_laws.proofs.Telling.{all_chosen}
use Rattle.journal_laws.proofs.laws.a_journal_tells_what_was_chosen.Goals as goal

pub returns : goal.returns
returns c cluster behind inputs entries ends is = all_chosen cluster behind inputs entries ends is
