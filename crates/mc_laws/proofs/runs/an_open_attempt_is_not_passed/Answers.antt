use Rattle.mc_model.specs.cluster.Loose.{end_of}
use Rattle.mc_laws.proofs.invariant.LooseRuns.{holds_at_end, attempt_not_passed}
use Rattle.mc_laws.proofs.runs.an_open_attempt_is_not_passed.Goals as goal

pub returns : goal.returns
returns c = λ run. attempt_not_passed (end_of run) (holds_at_end run)
