use Rattle.mc_model.specs.synod.OneSlot.{was_voted, was_promised, was_proposed}
use Rattle.mc_parts.proofs.Stable.{stable}
use Rattle.mc_parts.proofs.synod.choice_is_stable.Goals as goal

pub returns-clause-votes : goal.returns-clause-votes
returns-clause-votes c = λ nodes past chosen acceptor vote keeps is_chosen voted from.
    stable nodes (was_voted past) (was_promised past) (was_proposed past) keeps chosen is_chosen vote (keeps.proposed acceptor vote voted) from

pub returns-clause-proposals : goal.returns-clause-proposals
returns-clause-proposals c = λ nodes past chosen vote keeps is_chosen.
    stable nodes (was_voted past) (was_promised past) (was_proposed past) keeps chosen is_chosen vote
