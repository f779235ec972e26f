use Rattle.mc_laws.proofs.step.Together.{put_together}
use Rattle.mc_laws.proofs.steps.nodes_make_a_run.Goals as goal

pub returns : goal.returns
returns c = put_together
