use Rattle.mc_laws.proofs.invariant.Reached.{holds}
use Rattle.mc_laws.proofs.runs.no_decree_is_ahead_of_the_clock.Goals as goal

pub returns : goal.returns
returns c = λ run sender slot vote sent. (holds run.nodes run.serials run.acts run.may).own.moments slot vote (record { sender = sender; sent = sent })
