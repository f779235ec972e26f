use Rattle.mc_laws.proofs.story.Idle.{grants, concludes}
use Rattle.mc_laws.proofs.steps_of_nodes.an_attempt_is_granted_and_concluded.Goals as goal

pub returns-clause-granted : goal.returns-clause-granted
returns-clause-granted c = grants

pub returns-clause-concluded : goal.returns-clause-concluded
returns-clause-concluded c = concludes
