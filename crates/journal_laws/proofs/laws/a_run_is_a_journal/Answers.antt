use Rattle.journal_laws.proofs.Listing.{is_listed}
use Rattle.journal_laws.proofs.laws.a_run_is_a_journal.Goals as goal

pub returns : goal.returns
returns c cluster behind inputs last taken givens few may r = is_listed cluster behind inputs last taken givens few may r
