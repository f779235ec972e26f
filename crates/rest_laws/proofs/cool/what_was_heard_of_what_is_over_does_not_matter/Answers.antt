use Rattle.rest_laws.proofs.cooled.Stepping.{step_cool}
use Rattle.rest_laws.proofs.cool.what_was_heard_of_what_is_over_does_not_matter.Goals as goal

pub returns : goal.returns
returns c = step_cool
