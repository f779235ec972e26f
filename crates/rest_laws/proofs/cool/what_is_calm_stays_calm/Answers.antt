use Rattle.rest_laws.proofs.cooled.Shut.{suits_shut}
use Rattle.rest_laws.proofs.cooled.Staying.{step_calm}
use Rattle.rest_laws.proofs.cool.what_is_calm_stays_calm.Goals as goal

pub returns-clause-calm : goal.returns-clause-calm
returns-clause-calm c = step_calm

pub returns-clause-shut : goal.returns-clause-shut
returns-clause-shut c = suits_shut
