use Rattle.std.proofs.Common.{ℕ, subst}
use Rattle.mc_model.specs.node.Concerns.{Concerns}
use Rattle.mc_model.specs.cluster.World.{start, world_of}
use Rattle.mc_laws.proofs.invariant.Growth.{nodes_same}
use Rattle.mc_laws.proofs.invariant.Honest.{all_concern}
use Rattle.mc_laws.proofs.invariant.Reached.{holds}
use Rattle.mc_laws.proofs.runs.every_packet_concerns_every_node.Goals as goal

pub returns : goal.returns
returns c = λ run node packet is_in.
    let h = holds run.nodes run.serials run.acts run.may in
    subst (λ (n : ℕ). Concerns n node ((world_of run).actors node) packet) (nodes_same (start run.nodes run.serials) run.acts)
    (all_concern (world_of run) h.keeps h.links h.names h.honest node packet is_in)
