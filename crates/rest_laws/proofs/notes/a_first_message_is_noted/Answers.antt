use Rattle.rest_laws.proofs.noting.FirstMessage.{noted, starts}
use Rattle.rest_laws.proofs.notes.a_first_message_is_noted.Goals as goal

pub returns-clause-noted : goal.returns-clause-noted
returns-clause-noted c = noted

pub returns-clause-starts : goal.returns-clause-starts
returns-clause-starts c = starts
