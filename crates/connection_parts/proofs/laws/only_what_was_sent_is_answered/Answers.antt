use Rattle.connection_parts.proofs.Answering.{answered}
use Rattle.connection_parts.proofs.laws.only_what_was_sent_is_answered.Goals as goal

pub returns : goal.returns
returns c calls pdu is = answered calls pdu is
