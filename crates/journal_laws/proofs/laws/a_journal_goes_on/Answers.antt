use Rattle.journal_laws.proofs.Joining.{both, cut}
use Rattle.journal_laws.proofs.laws.a_journal_goes_on.Goals as goal

pub returns-clause-both : goal.returns-clause-both
returns-clause-both c cluster behind inputs first second middles ends one way other = both cluster behind inputs first second middles ends one way other

pub returns-clause-cut : goal.returns-clause-cut
returns-clause-cut c cluster behind inputs first second ends is = cut cluster behind inputs first second ends is
