use Rattle.mc_model.specs.cluster.Loose.{end_of}
use Rattle.mc_laws.proofs.invariant.LooseRuns.{holds_at_end, chains_agree}
use Rattle.mc_laws.proofs.runs.chosen_chains_agree.Goals as goal

pub returns : goal.returns
returns c = λ run. chains_agree (end_of run) (holds_at_end run)
