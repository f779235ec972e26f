-- What a cluster of nodes by what they keep sends is well made.
use Rattle.std.proofs.Common.{◌≡◌, ◌<◌, ◌≤◌, pred, List, length, Some, None, ap, subst, arith}
use Rattle.mc_model.specs.message.Decree.{Decree}
use Rattle.mc_model.specs.message.Chain.{IsPermitted}
use Rattle.mc_model.specs.synod.Lists.{In}
use Rattle.mc_model.specs.synod.Packet.{Ask, Packet, Prepare, Promise, Propose, Refused, Slot, Tell, Voted, slot_at}
use Rattle.mc_model.specs.cluster.Steps.{Cluster, acts_in}
use Rattle.mc_model.specs.cluster.World.{Cast, World, cast, start}
use Rattle.mc_parts.proofs.Lengths.{most_decrees}
use Rattle.mc_laws.proofs.step.Behind.{steps_run}
use Rattle.mc_laws.proofs.invariant.Links.{Standing}
use Rattle.mc_laws.proofs.invariant.Reached.{Holds, holds}
use Rattle.node_model.specs.Message.{most_places}
use Rattle.node_laws.specs.Clusters.{NodeInput, RunsTogether, kept_reached, world_at}
use Rattle.node_laws.specs.Steps.{IsWellMade}

module _ (cluster : Cluster) (inputs : List NodeInput) (run : RunsTogether cluster inputs) where
  abbrev pub world : World
  world = world_at cluster run.steps

  pub world_holds : Holds world
  world_holds = holds cluster.nodes cluster.serials (acts_in run.steps) (steps_run cluster (start cluster.nodes cluster.serials) run.steps run.are)

  -- ---- chains that stand have places

  has_place : (slot : Slot) (chain : List Decree) → Standing world slot chain → IsPermitted slot.id chain → slot.place < most_places
  has_place slot chain stands permitted =
      let short : length chain ≤ 19 = most_decrees slot.id chain permitted in
      let place : slot.place ≡ pred (length chain) = ap (λ (s : Slot). s.place) stands.place in
      omega (arith, short, place)

  cast_stands : (c : Cast) → In c world.votes → Standing world c.slot c.vote.chain
  cast_stands c among = world_holds.links.standing c.slot c.vote (world_holds.keeps.proposed c among)

  cast_permitted : (c : Cast) → In c world.votes → IsPermitted c.slot.id c.vote.chain
  cast_permitted c among = world_holds.permitted.chains c.slot c.vote (world_holds.keeps.proposed c among)

  -- ---- packets

  sent_well : (packet : Packet) → In packet world.packets → IsWellMade packet
  sent_well (Prepare sender slot ballot) sent = tt
  sent_well (Promise sender slot ballot report) sent = tt
  sent_well (Propose sender slot vote) sent =
      let stands = world_holds.links.standing slot vote (record { sender = sender; sent = sent }) in
      (stands.place, has_place slot vote.chain stands (world_holds.permitted.chains slot vote (record { sender = sender; sent = sent })))
  sent_well (Voted sender slot vote) sent = cast_permitted (cast sender slot vote) (world_holds.keeps.fits (Voted sender slot vote) sent)
  sent_well (Refused sender slot ballot promised) sent = tt
  sent_well (Ask sender id name) sent = tt
  sent_well (Tell sender name None) sent = tt
  sent_well (Tell sender name (Some told)) sent =
      let voted = world_holds.told_votes sender name told sent in
      let c = cast sender (slot_at told.id told.place) told.vote in
      has_place (slot_at told.id told.place) told.vote.chain (cast_stands c voted) (cast_permitted c voted)

  pub well_made : (packet : Packet) → In packet (kept_reached cluster inputs).packets → IsWellMade packet
  well_made packet sent = sent_well packet (subst (In packet) run.packets sent)
