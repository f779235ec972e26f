use Rattle.table_laws.specs.Tables.{new_table}
use Rattle.table_laws.proofs.AnyEvent.{events_run}
use Rattle.table_laws.proofs.Opening.{new_rests}
use Rattle.table_laws.proofs.events.one_node_alone_is_the_table.Goals as goal

pub returns-clause-from_rest : goal.returns-clause-from_rest
returns-clause-from_rest c first validity k t resting events may = events_run first validity k t resting events may

pub returns-clause-from_new : goal.returns-clause-from_new
returns-clause-from_new c first validity events may = events_run first validity _ (new_table first) (new_rests first validity) events may
