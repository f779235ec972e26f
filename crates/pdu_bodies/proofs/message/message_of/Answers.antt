use Rattle.pdu_bodies.proofs.PieceLaws.{message-in_pieces}
use Rattle.pdu_bodies.proofs.message.message_of.Goals as goal

pub returns : goal.returns
returns c = rw (message-in_pieces c.args.octets.now) c.message_in_pieces.ensures
