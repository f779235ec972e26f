-- Packets, as the model's.
use Rattle.std.specs.Prelude.{Some, None}
use Rattle.mc_model.specs.synod.Packet.{Packet, Prepare, Promise, Propose, Voted, Refused, Ask, Tell}
use Rattle.synod_acceptor.specs.Votes.{vote_of, slot_in, report_of, slot_reported, told_vote}
use Rattle.synod_acceptor.specs.declared.packet.Packet.{Packet as Sent}
use Rattle.synod_acceptor.specs.declared.packet.Packet.TheVariants as sent

abbrev pub packet_of : Sent → Packet
packet_of (sent.Prepare from slot ballot) = Prepare from slot ballot
packet_of (sent.Promise from ballot report) = Promise from (slot_reported report) ballot (report_of report)
packet_of (sent.Propose from vote) = Propose from (slot_in vote) (vote_of vote)
packet_of (sent.Voted from vote) = Voted from (slot_in vote) (vote_of vote)
packet_of (sent.Refused from slot ballot promised) = Refused from slot ballot promised
packet_of (sent.Ask from id name) = Ask from id name
packet_of (sent.Tell from name told) = Tell from name (told_vote told)

-- a packet carries a vote
abbrev pub CarriesVote : Packet → Type 0
CarriesVote (Prepare from slot ballot) = ⊥
CarriesVote (Promise from slot ballot None) = ⊥
CarriesVote (Promise from slot ballot (Some reported)) = Unit {0}
CarriesVote (Propose from slot vote) = Unit {0}
CarriesVote (Voted from slot vote) = Unit {0}
CarriesVote (Refused from slot ballot promised) = ⊥
CarriesVote (Ask from id name) = ⊥
CarriesVote (Tell from name None) = ⊥
CarriesVote (Tell from name (Some told)) = Unit {0}
