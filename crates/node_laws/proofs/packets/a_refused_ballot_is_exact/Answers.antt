use Rattle.node_laws.proofs.step.Refusing.{refused_steps}
use Rattle.node_laws.proofs.packets.a_refused_ballot_is_exact.Goals as goal

pub returns : goal.returns
returns c setup k s stands works sender ballot promised slot = refused_steps setup k s stands sender ballot promised slot works
