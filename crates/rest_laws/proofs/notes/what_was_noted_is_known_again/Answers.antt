use Rattle.rest_laws.proofs.noting.Hearing.{knows_again}
use Rattle.rest_laws.proofs.notes.what_was_noted_is_known_again.Goals as goal

pub returns : goal.returns
returns c = knows_again
