use Rattle.table_laws.proofs.Single.{round_settles}
use Rattle.table_laws.proofs.rounds.a_round_settles.Goals as goal

pub returns : goal.returns
returns c first validity k t resting id decree taken = round_settles first validity k t resting id decree taken
