use Rattle.mc_laws.proofs.invariant.Answers.{stands_on_cancel}
use Rattle.mc_laws.proofs.runs.deleted_stands_on_a_cancel.Goals as goal

pub returns : goal.returns
returns c = λ run newer stating older id. stands_on_cancel run.nodes run.serials run.acts newer stating older id run.may
