use Rattle.world_runs.proofs.Linking.{chosen_all}
use Rattle.world_runs.proofs.laws.a_world_tells_what_was_chosen.Goals as goal

pub returns : goal.returns
returns c h fresh = chosen_all h fresh
