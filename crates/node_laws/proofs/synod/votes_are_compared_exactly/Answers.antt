use Rattle.node_model.proofs.Same.{vote_decides}
use Rattle.node_laws.proofs.synod.votes_are_compared_exactly.Goals as goal

pub returns : goal.returns
returns c = vote_decides
