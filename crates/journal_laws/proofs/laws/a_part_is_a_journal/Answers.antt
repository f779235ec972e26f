use Rattle.journal_laws.proofs.laws.a_part_is_a_journal.Goals as goal
use Rattle.journal_laws.proofs.Parts.{journal_of_part, parts_go_on}

pub returns-clause-behind : goal.returns-clause-behind
returns-clause-behind c = journal_of_part

pub returns-clause-both : goal.returns-clause-both
returns-clause-both c = parts_go_on
