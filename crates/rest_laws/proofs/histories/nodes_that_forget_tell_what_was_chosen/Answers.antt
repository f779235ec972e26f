use Rattle.rest_laws.proofs.runs.Given.{chosen}
use Rattle.rest_laws.proofs.histories.nodes_that_forget_tell_what_was_chosen.Goals as goal

pub returns : goal.returns
returns c = chosen
