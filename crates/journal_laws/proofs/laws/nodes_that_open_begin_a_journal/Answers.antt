use Rattle.std.proofs.Common.{refl}
use Rattle.journal_laws.proofs.OldStores.{leads_over}
use Rattle.journal_laws.proofs.laws.nodes_that_open_begin_a_journal.Goals as goal

pub returns-clause-new : goal.returns-clause-new
returns-clause-new c cluster = record { may = tt; is_kept = λ node within. refl; are_sent = refl }

pub returns-clause-over : goal.returns-clause-over
returns-clause-over c = leads_over
