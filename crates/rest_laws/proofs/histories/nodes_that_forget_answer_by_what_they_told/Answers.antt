use Rattle.rest_laws.proofs.runs.Given.{known_later, told_later}
use Rattle.rest_laws.proofs.histories.nodes_that_forget_answer_by_what_they_told.Goals as goal

pub returns-clause-fate : goal.returns-clause-fate
returns-clause-fate c = λ cluster older middle node ticket request next may asked lives.
    told_later cluster older middle node ticket request next may asked lives

pub returns-clause-known : goal.returns-clause-known
returns-clause-known c = λ cluster older middle node ticket request next may asked lives.
    known_later cluster older middle node ticket request next may asked lives
