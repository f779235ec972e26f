use Rattle.pdu_bodies.proofs.PieceLaws.{cancel-in_pieces}
use Rattle.pdu_bodies.proofs.cancel.cancel_of.Goals as goal

pub returns : goal.returns
returns c = rw (cancel-in_pieces c.args.octets.now) c.cancel_in_pieces.ensures
