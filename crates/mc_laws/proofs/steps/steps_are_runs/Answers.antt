use Rattle.mc_model.specs.cluster.World.{start}
use Rattle.mc_laws.proofs.step.Behind.{steps_run}
use Rattle.mc_laws.proofs.steps.steps_are_runs.Goals as goal

pub returns : goal.returns
returns c = λ cluster. steps_run cluster (start cluster.nodes cluster.serials)
