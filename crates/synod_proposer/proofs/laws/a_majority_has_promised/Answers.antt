use Rattle.synod_proposer.proofs.Promises.{majority_promised}
use Rattle.synod_proposer.proofs.laws.a_majority_has_promised.Goals as goal

pub returns : goal.returns
returns c = majority_promised
