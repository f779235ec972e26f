use Rattle.std.proofs.Common.{◌∙◌, arith}
use Rattle.pdu_fields.specs.Grammar.{message_parts}
use Rattle.pdu_bodies.proofs.PieceLaws.{message-in_pieces, read-within}
use Rattle.pdu_bodies.proofs.message.message_in_pieces.Goals as goal

pub message-requires-clause-within : goal.message-requires-clause-within
message-requires-clause-within c =
    read-within message_parts c.args.octets.now _ (λ i. omega (arith, c.type_inv.octets i)) (message-in_pieces c.args.octets.now ∙ c.in_ok-read.ensures.read)
