use Rattle.journal_laws.proofs.Recorded.{lists_reached}
use Rattle.journal_laws.proofs.laws.a_run_lists_its_records.Goals as goal

pub returns : goal.returns
returns c = lists_reached
