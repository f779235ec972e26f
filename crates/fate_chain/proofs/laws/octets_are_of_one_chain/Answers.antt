use Rattle.fate_chain.proofs.Outcomes.{one-chain}
use Rattle.fate_chain.proofs.laws.octets_are_of_one_chain.Goals as goal

pub returns : goal.returns
returns c octets one other is also = one-chain octets one other is also
