-- Votes, reports and records, as the model's. Each names its slot by its chain.
use Rattle.std.specs.Prelude.{ℕ, ◌≤◌, IfSome, Option, Some, None}
use Rattle.mc_model.specs.synod.OneSlot.{Vote, vote_at}
use Rattle.mc_model.specs.synod.Packet.{Slot, TopVote, slot_of, top_at}
use Rattle.mc_model.specs.synod.Acceptor.{SlotRecord}
use Rattle.synod_acceptor.specs.declared.vote.Vote.{Vote as Cast}
use Rattle.synod_acceptor.specs.declared.vote.Report.{Report}
use Rattle.synod_acceptor.specs.declared.vote.Report.TheVariants.{Nothing, Held}

abbrev pub vote_of : Cast → Vote
vote_of v = vote_at v.ballot v.chain.decrees

abbrev pub slot_in : Cast → Slot
slot_in v = slot_of v.chain.id v.chain.decrees

abbrev pub report_of : Report → Option Vote
report_of (Nothing slot) = None
report_of (Held vote) = Some (vote_of vote)

abbrev pub slot_reported : Report → Slot
slot_reported (Nothing slot) = slot
slot_reported (Held vote) = slot_in vote

-- what an acceptor keeps of a slot
pub record Record : Type 0 where
  pub promised : ℕ
  pub report : Report

abbrev pub record_of : Record → SlotRecord
record_of r = record { promised = r.promised; vote = report_of r.report }

abbrev pub slot_recorded : Record → Slot
slot_recorded r = slot_reported r.report

-- a vote is at no ballot above the one that is promised (Paxos Made Simple, section 2.2: who votes at a ballot promised none above it)
abbrev pub IsInOrder : SlotRecord → Type 0
IsInOrder r = IfSome r.vote (λ vote. vote.ballot ≤ r.promised)

-- what is told of a message
abbrev pub told_vote : Option Cast → Option TopVote
told_vote None = None
told_vote (Some vote) = Some (top_at (slot_in vote) (vote_of vote))
