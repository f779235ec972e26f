use Rattle.table_laws.proofs.AnyEvent.{event_settles}
use Rattle.table_laws.proofs.events.an_event_settles.Goals as goal

pub returns : goal.returns
returns c first validity k t resting event may = event_settles first validity k t resting event may
