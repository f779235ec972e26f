-- What is found of a packet's step once a node opens again.
use Rattle.std.specs.Prelude.{◌≡◌, ◌↔◌, Option, Some, None}
use Rattle.mc_model.specs.synod.Packet.{Ask, Packet, Prepare, Promise, Propose, Refused, Tell, Voted}
use Rattle.mc_model.specs.synod.Acceptor.{Records, after_vote}
use Rattle.synod_acceptor.specs.Packets.{packet_of}
use Rattle.synod_acceptor.specs.declared.packet.Packet.{Packet as Sent}
use Rattle.node_kept.specs.declared.stopped.Found.TheVariants.{After}
use Rattle.node_kept.specs.declared.stopped.Stopped.{Stopped}

-- These records have what a packet asks to be saved: a promise at its ballot, or its vote.
abbrev pub HasSaved : Records → Packet → Type 0
HasSaved records (Prepare sender slot ballot) = (records slot).promised ≡ ballot
HasSaved records (Propose sender slot vote) = records slot ≡ after_vote vote
HasSaved records (Promise sender slot ballot report) = ⊥
HasSaved records (Voted sender slot vote) = ⊥
HasSaved records (Refused sender slot ballot promised) = ⊥
HasSaved records (Ask sender id name) = ⊥
HasSaved records (Tell sender name told) = ⊥

abbrev pub IsFound : Records → Option Sent → Option Stopped → Type 0
IsFound records None told = told ≡ None
IsFound records (Some packet) None = ⊥
IsFound records (Some packet) (Some told) = (told.packet ≡ packet) × ((told.found ≡ After) ↔ HasSaved records (packet_of packet))
