use Rattle.rest_laws.proofs.noting.All.{opens_over}
use Rattle.rest_laws.proofs.notes.a_node_starts_anew_over_notes.Goals as goal

pub returns : goal.returns
returns c = opens_over
