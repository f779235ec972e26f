use Rattle.std.proofs.Common.{arith}
use Rattle.fate_chain.proofs.Outcomes.{found-spelled, found-only, found-not_bytes, found-not_permitted, found-memory}
use Rattle.fate_chain.proofs.chain.Chain.read.Goals as goal

pub returns-clause-only : goal.returns-clause-only
returns-clause-only c = found-only c.args.octets.now c.judged.result c.judged.ensures

pub returns-clause-read : goal.returns-clause-read
returns-clause-read c = found-spelled c.args.octets.now c.judged.result (λ i. omega (arith, c.type_inv.octets i)) c.judged.ensures

pub returns-clause-not_bytes : goal.returns-clause-not_bytes
returns-clause-not_bytes c = found-not_bytes c.args.octets.now c.judged.result (λ i. omega (arith, c.type_inv.octets i)) c.judged.ensures

pub returns-clause-not_permitted : goal.returns-clause-not_permitted
returns-clause-not_permitted c = found-not_permitted c.args.octets.now c.judged.result (λ i. omega (arith, c.type_inv.octets i)) c.judged.ensures

pub returns-clause-memory : goal.returns-clause-memory
returns-clause-memory c = found-memory c.args.octets.now c.judged.result (λ i. omega (arith, c.type_inv.octets i)) c.judged.ensures
