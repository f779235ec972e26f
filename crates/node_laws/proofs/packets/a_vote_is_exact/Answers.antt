use Rattle.node_laws.proofs.step.Voting.{voted_steps}
use Rattle.node_laws.proofs.packets.a_vote_is_exact.Goals as goal

pub returns : goal.returns
returns c setup k s stands works mine voter slot vote permitted = voted_steps setup k s stands voter slot vote permitted works mine
