use Rattle.rest_laws.proofs.runs.Each.{all_kept, each_history}
use Rattle.rest_laws.proofs.behind.each_run_is_a_history.Goals as goal

pub returns-clause-history : goal.returns-clause-history
returns-clause-history c = each_history

pub returns-clause-kept : goal.returns-clause-kept
returns-clause-kept c = all_kept
