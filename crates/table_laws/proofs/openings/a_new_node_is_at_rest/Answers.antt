use Rattle.table_laws.proofs.Opening.{new_rests}
use Rattle.table_laws.proofs.openings.a_new_node_is_at_rest.Goals as goal

pub returns : goal.returns
returns c first validity = new_rests first validity
