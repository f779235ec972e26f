use Rattle.journal_parts.proofs.Histories.{all_are_one, all_keep_promises}
use Rattle.journal_parts.proofs.going_on.all_parts_are_one.Goals as goal

pub returns-clause-one : goal.returns-clause-one
returns-clause-one g c = λ cluster kept numbers parts closed closes sure packets have.
    let one = all_are_one g.S.StableStore.stored cluster kept numbers packets have parts closed closes sure in
    (_, one.0)

pub returns-clause-promises : goal.returns-clause-promises
returns-clause-promises g c = λ cluster kept numbers parts closed closes. all_keep_promises g.S.StableStore.stored cluster kept numbers parts closed closes
