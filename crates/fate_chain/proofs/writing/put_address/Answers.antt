use Rattle.fate_chain.proofs.writing.put_address.Goals as goal

pub returns-clause-ton : goal.returns-clause-ton
returns-clause-ton c = c.put_octets.ensures.octets 0

pub returns-clause-npi : goal.returns-clause-npi
returns-clause-npi c = c.put_octets.ensures.octets 1
