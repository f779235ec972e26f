use Rattle.journal_laws.proofs.Running.{runs_on}
use Rattle.journal_laws.proofs.laws.a_journal_is_a_run.Goals as goal

pub returns : goal.returns
returns c cluster behind inputs entries ends is = runs_on cluster behind inputs entries ends is
