use Rattle.mc_model.specs.cluster.Loose.{end_of}
use Rattle.mc_laws.proofs.invariant.LooseRuns.{holds_at_end, choice_stays}
use Rattle.mc_laws.proofs.runs.what_is_chosen_stays.Goals as goal

pub returns : goal.returns
returns c = λ run. choice_stays (end_of run) (holds_at_end run)
