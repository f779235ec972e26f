-- A packet is known by what it is in the model.
use Rattle.std.proofs.Common.{◌≡◌, Option, Some, None, refl, sym, ap, ◌∙◌}
use Rattle.mc_model.specs.synod.OneSlot.{Vote}
use Rattle.mc_model.specs.synod.Packet.{Packet, Slot, TopVote, slot_at, Prepare, Promise, Propose, Voted, Refused, Ask, Tell}
use Rattle.synod_acceptor.specs.Packets.{packet_of}
use Rattle.synod_acceptor.specs.declared.packet.Packet.{Packet as Sent}
use Rattle.synod_acceptor.specs.declared.packet.Packet.TheVariants as sent
use Rattle.synod_acceptor.specs.declared.vote.Vote.{Vote as Cast}
use Rattle.synod_acceptor.specs.declared.vote.Report.{Report}
use Rattle.synod_acceptor.specs.declared.vote.Report.TheVariants.{Nothing, Held}

-- ---- from the model to the code

abbrev cast_by : Slot → Vote → Cast
cast_by slot vote = record { ballot = vote.ballot; chain = record { id = slot.id; decrees = vote.chain } }

abbrev report_by : Slot → Option Vote → Report
report_by slot None = Nothing slot
report_by slot (Some vote) = Held (cast_by slot vote)

abbrev told_by : Option TopVote → Option Cast
told_by None = None
told_by (Some top) = Some (cast_by (slot_at top.id top.place) top.vote)

abbrev sent_by : Packet → Sent
sent_by (Prepare from slot ballot) = sent.Prepare from slot ballot
sent_by (Promise from slot ballot report) = sent.Promise from ballot (report_by slot report)
sent_by (Propose from slot vote) = sent.Propose from (cast_by slot vote)
sent_by (Voted from slot vote) = sent.Voted from (cast_by slot vote)
sent_by (Refused from slot ballot promised) = sent.Refused from slot ballot promised
sent_by (Ask from id name) = sent.Ask from id name
sent_by (Tell from name told) = sent.Tell from name (told_by told)

-- ---- and back

back : (one : Sent) → sent_by (packet_of one) ≡ one
back (sent.Prepare from slot ballot) = refl
back (sent.Promise from ballot (Nothing slot)) = refl
back (sent.Promise from ballot (Held vote)) = refl
back (sent.Propose from vote) = refl
back (sent.Voted from vote) = refl
back (sent.Refused from slot ballot promised) = refl
back (sent.Ask from id name) = refl
back (sent.Tell from name None) = refl
back (sent.Tell from name (Some vote)) = refl

pub same_packet : (one other : Sent) → packet_of one ≡ packet_of other → one ≡ other
same_packet one other same = sym (back one) ∙ ap sent_by same ∙ back other
