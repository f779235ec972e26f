use Rattle.waiting_messages.proofs.Spreading.{one_begins}
use Rattle.waiting_messages.proofs.laws.one_node_begins.Goals as goal

pub returns : goal.returns
returns c = one_begins
