use Rattle.mc_laws.proofs.invariant.Deeds.{possible, concluded_once}
use Rattle.mc_laws.proofs.runs.an_outcome_is_possible_and_comes_once.Goals as goal

pub returns-clause-possible : goal.returns-clause-possible
returns-clause-possible c = possible

pub returns-clause-once : goal.returns-clause-once
returns-clause-once c = concluded_once
