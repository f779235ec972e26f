use Rattle.script_text.proofs.Joining.{joined, printed}
use Rattle.script_text.proofs.laws.lines_join.Goals as goal

pub returns-clause-printed : goal.returns-clause-printed
returns-clause-printed c = printed

pub returns-clause-joined : goal.returns-clause-joined
returns-clause-joined c = joined
