use Rattle.mc_laws.proofs.invariant.Reached.{holds}
use Rattle.mc_laws.proofs.runs.what_is_given_up_was_never_granted.Goals as goal

pub returns : goal.returns
returns c = λ run. (holds run.nodes run.serials run.acts run.may).grantings.apart
