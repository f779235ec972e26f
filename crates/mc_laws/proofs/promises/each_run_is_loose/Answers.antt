use Rattle.mc_model.specs.cluster.World.{start}
use Rattle.mc_laws.proofs.invariant.Loosening.{run_loosely}
use Rattle.mc_laws.proofs.promises.each_run_is_loose.Goals as goal

pub returns : goal.returns
returns c = λ run. run_loosely (start run.nodes run.serials) run.acts run.may
