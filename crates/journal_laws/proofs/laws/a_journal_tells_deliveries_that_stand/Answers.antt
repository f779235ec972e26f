use Rattle.journal_laws.proofs.Telling.{all_deliveries_stand, deliveries_stand_in_the_run}
use Rattle.journal_laws.proofs.laws.a_journal_tells_deliveries_that_stand.Goals as goal

pub returns-clause-new : goal.returns-clause-new
returns-clause-new c cluster behind entries ends is = all_deliveries_stand cluster behind entries ends is

pub returns-clause-any : goal.returns-clause-any
returns-clause-any c cluster behind inputs entries ends is = deliveries_stand_in_the_run cluster behind inputs entries ends is
