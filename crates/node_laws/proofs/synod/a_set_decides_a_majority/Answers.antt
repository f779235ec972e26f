use Rattle.std.proofs.Common.{Option}
use Rattle.mc_model.specs.synod.Lists.{In}
use Rattle.mc_model.specs.synod.OneSlot.{Vote}
use Rattle.mc_model.specs.synod.Packet.{Promise, Voted}
use Rattle.mc_model.specs.node.Settling.{HasTold}
use Rattle.node_laws.proofs.invariant.Learning.{majority_decides}
use Rattle.node_laws.proofs.synod.a_set_decides_a_majority.Goals as goal

pub returns-clause-votes : goal.returns-clause-votes
returns-clause-votes c nodes received slot vote voters is = majority_decides nodes (λ node. In (Voted node slot vote) received) voters is

pub returns-clause-promises : goal.returns-clause-promises
returns-clause-promises c nodes a slot ballot promised is =
    majority_decides nodes (λ node. (report : Option Vote) × In (Promise node slot ballot report) a.received) promised is

pub returns-clause-tells : goal.returns-clause-tells
returns-clause-tells c nodes received name tellers is = majority_decides nodes (HasTold received name) tellers is
