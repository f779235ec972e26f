use Rattle.journal_laws.proofs.laws.an_own_run_is_copied.Goals as goal
use Rattle.journal_laws.proofs.Likeness.{own_alike}

pub returns : goal.returns
returns c = own_alike
