use Rattle.rest_laws.proofs.noting.Starts.{starts_none, waiting_starts_none}
use Rattle.rest_laws.proofs.notes.most_chains_start_no_round.Goals as goal

pub returns-clause-over : goal.returns-clause-over
returns-clause-over c = starts_none

pub returns-clause-waits : goal.returns-clause-waits
returns-clause-waits c = waiting_starts_none
