use Rattle.node_model.proofs.Places.{message_here, message_elsewhere}
use Rattle.node_laws.proofs.tables.messages_are_kept_by_their_ids.Goals as goal

pub returns-clause-here : goal.returns-clause-here
returns-clause-here c = message_here

pub returns-clause-elsewhere : goal.returns-clause-elsewhere
returns-clause-elsewhere c = message_elsewhere
