use Rattle.synod_proposer.proofs.Promises.{counted_more}
use Rattle.synod_proposer.proofs.laws.promises_are_counted.Goals as goal

pub returns : goal.returns
returns c = counted_more
