use Rattle.rest_laws.proofs.runs.Calm.{all_keep, all_suits}
use Rattle.rest_laws.proofs.cool.what_comes_suits_what_is_calm.Goals as goal

pub returns-clause-suits : goal.returns-clause-suits
returns-clause-suits c = all_suits

pub returns-clause-keeps : goal.returns-clause-keeps
returns-clause-keeps c = all_keep
