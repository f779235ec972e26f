use Rattle.std.proofs.Common.{◌∙◌, arith}
use Rattle.pdu_fields.specs.Grammar.{cancel_parts}
use Rattle.pdu_bodies.proofs.PieceLaws.{cancel-in_pieces, read-within}
use Rattle.pdu_bodies.proofs.cancel.cancel_in_pieces.Goals as goal

pub cancel-requires : goal.cancel-requires
cancel-requires c =
    read-within cancel_parts c.args.octets.now _ (λ i. omega (arith, c.type_inv.octets i)) (cancel-in_pieces c.args.octets.now ∙ c.in_ok-read.ensures)
