use Rattle.mc_laws.proofs.invariant.Reached.{holds}
use Rattle.mc_laws.proofs.runs.a_full_desk_takes_no_request.Goals as goal

pub returns : goal.returns
returns c = λ run node. (holds run.nodes run.serials run.acts run.may).rooms node
