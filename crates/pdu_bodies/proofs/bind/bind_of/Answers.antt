use Rattle.std.proofs.Common.{arith}
use Rattle.pdu_fields.specs.Grammar.{bind_parts}
use Rattle.pdu_bodies.proofs.PieceLaws.{read-within}
use Rattle.pdu_bodies.proofs.bind.bind_of.Goals as goal

pub bind-requires : goal.bind-requires
bind-requires c = read-within bind_parts c.args.octets.now _ (λ i. omega (arith, c.type_inv.octets i)) c.in_ok-read.ensures
