use Rattle.mc_model.specs.message.Chain.{IsPermitted}
use Rattle.mc_parts.proofs.Fates.{fate_ends, fate_is_last, fate_stays}
use Rattle.mc_parts.proofs.chains.a_fate_is_the_end.Goals as goal

pub returns-clause-end : goal.returns-clause-end
returns-clause-end c = fate_ends

pub returns-clause-last : goal.returns-clause-last
returns-clause-last c = λ id. fate_is_last (IsPermitted id) (λ newest older oldest permitted. permitted)

pub returns-clause-same : goal.returns-clause-same
returns-clause-same c = λ id. fate_stays (IsPermitted id) (λ newest older oldest permitted. permitted)
