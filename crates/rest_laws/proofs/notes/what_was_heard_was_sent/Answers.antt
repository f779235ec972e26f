use Rattle.rest_laws.proofs.noting.Known.{heard_sent}
use Rattle.rest_laws.proofs.notes.what_was_heard_was_sent.Goals as goal

pub returns : goal.returns
returns c = heard_sent
