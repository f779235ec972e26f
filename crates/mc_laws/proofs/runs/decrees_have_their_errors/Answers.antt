use Rattle.mc_laws.proofs.invariant.Reached.{holds}
use Rattle.mc_laws.proofs.runs.decrees_have_their_errors.Goals as goal

pub returns : goal.returns
returns c = λ run sender slot vote sent. (holds run.nodes run.serials run.acts run.may).own.errors slot vote (record { sender = sender; sent = sent })
