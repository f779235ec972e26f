use Rattle.table_laws.proofs.Clocked.{tick_settles}
use Rattle.table_laws.proofs.ticks.a_tick_settles.Goals as goal

pub returns : goal.returns
returns c first validity k t resting moment up = tick_settles first validity k t moment up resting
