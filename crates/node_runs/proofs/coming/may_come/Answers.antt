use Rattle.node_runs.proofs.Inputs.{comes}
use Rattle.node_runs.proofs.coming.may_come.Goals as goal

pub returns : goal.returns
returns g c = comes c.args.node.now c.args.input.now c.bounds.ensures.node c.bounds.ensures.incarnation c.bounds.ensures.serial c.is_sound.ensures
