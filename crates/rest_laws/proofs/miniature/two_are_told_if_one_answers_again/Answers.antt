use Rattle.rest_laws.proofs.synod.AnswersAgain.{may}
use Rattle.rest_laws.proofs.miniature.two_are_told_if_one_answers_again.Goals as goal

pub returns-clause-may : goal.returns-clause-may
returns-clause-may c = may
