use Rattle.mc_model.specs.cluster.Steps.{acts_in}
use Rattle.mc_laws.proofs.step.Behind.{steps_run}
use Rattle.mc_laws.proofs.step.Openings.{over, goes_on_old, numbered_old}
use Rattle.mc_laws.proofs.steps.a_run_over_old_stores_goes_on.Goals as goal

pub returns-clause-run : goal.returns-clause-run
returns-clause-run c = λ run fresh lost serials later left. goes_on_old run fresh lost serials left later

pub returns-clause-numbered : goal.returns-clause-numbered
returns-clause-numbered c = λ run fresh lost serials later left. numbered_old run fresh lost serials left later

pub returns-clause-steps : goal.returns-clause-steps
returns-clause-steps c = λ run fresh lost cluster steps left are.
    goes_on_old run fresh lost cluster.serials left (acts_in steps) (steps_run cluster (over run fresh lost cluster.serials) steps are)
