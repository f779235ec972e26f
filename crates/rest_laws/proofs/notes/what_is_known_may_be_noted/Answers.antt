use Rattle.rest_laws.proofs.noting.Known.{has_note}
use Rattle.rest_laws.proofs.notes.what_is_known_may_be_noted.Goals as goal

pub returns : goal.returns
returns c = has_note
