use Rattle.journal_laws.proofs.Openings.{keeps_as_left, keeps_as_new}
use Rattle.journal_laws.proofs.laws.a_node_keeps_what_it_opened_over.Goals as goal

pub returns-clause-new : goal.returns-clause-new
returns-clause-new g c = keeps_as_new g.S.StableStore.stored g.met.S.StableStore.settled

pub returns-clause-left : goal.returns-clause-left
returns-clause-left g c = keeps_as_left g.S.StableStore.stored g.met.S.StableStore.settled
