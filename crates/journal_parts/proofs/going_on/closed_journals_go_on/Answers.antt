use Rattle.journal_parts.proofs.GoingOn.{both_are_one, goes_on, numbers_go_on}
use Rattle.journal_parts.proofs.going_on.closed_journals_go_on.Goals as goal

pub returns-clause-go : goal.returns-clause-go
returns-clause-go g c = λ cluster kept numbers closed other is sound.
    goes_on g.S.StableStore.stored cluster kept numbers closed other is sound

pub returns-clause-one : goal.returns-clause-one
returns-clause-one g c = λ cluster kept numbers first second other is sure sound later certain packets have. (
  both_are_one g.S.StableStore.stored cluster kept numbers first other is second sure sound later certain packets have,
  numbers_go_on cluster numbers packets first is.register have,
)
