use Rattle.mc_laws.proofs.story.Idle.{refuses}
use Rattle.mc_laws.proofs.steps_of_nodes.a_request_finds_no_serial.Goals as goal

pub returns : goal.returns
returns c = refuses
