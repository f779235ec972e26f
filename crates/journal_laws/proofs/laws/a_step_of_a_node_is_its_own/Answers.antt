use Rattle.journal_laws.proofs.Taken.{is_own_step}
use Rattle.journal_laws.proofs.laws.a_step_of_a_node_is_its_own.Goals as goal

pub returns : goal.returns
returns g c = is_own_step
