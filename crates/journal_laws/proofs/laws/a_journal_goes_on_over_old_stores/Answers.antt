use Rattle.journal_laws.proofs.Parts.{goes_over}
use Rattle.journal_laws.proofs.laws.a_journal_goes_on_over_old_stores.Goals as goal

pub returns : goal.returns
returns c cluster inputs fresh lost entries ends is = goes_over cluster inputs fresh lost entries ends is
