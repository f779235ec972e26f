use Rattle.rest_laws.proofs.noting.Anew.{starts_without}
use Rattle.rest_laws.proofs.notes.a_start_anew_does_without_what_is_gone.Goals as goal

pub returns : goal.returns
returns c = starts_without
