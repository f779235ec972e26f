use Rattle.script_site.proofs.Stepping.{stands_still}
use Rattle.script_site.proofs.steps.take.Goals as goal

pub returns-in-Err-clause-err : goal.returns-in-Err-clause-err
returns-in-Err-clause-err c = stands_still c.args.world.now c.step.new.self c.args.step c.in-Err.field-0 c.in-Err.ensures.leads
