use Rattle.mc_model.specs.cluster.World.{world_of}
use Rattle.mc_laws.proofs.invariant.Permitted.{PermittedIn}
use Rattle.mc_laws.proofs.invariant.Proposals.{chosen_good}
use Rattle.mc_laws.proofs.invariant.Reached.{holds}
use Rattle.mc_laws.proofs.runs.chosen_chains_are_permitted.Goals as goal

pub returns : goal.returns
returns c = λ run slot vote.
    let h = holds run.nodes run.serials run.acts run.may in
    chosen_good PermittedIn (world_of run) h.keeps h.permitted.chains slot vote
