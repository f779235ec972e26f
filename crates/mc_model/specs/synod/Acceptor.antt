-- The acceptor of a node: what it keeps for each slot, and what it does with it (Paxos Made Simple, 2.2 and 2.5).
use Rattle.std.specs.Prelude.{◌≡◌, ℕ, ◌<◌, ◌≤◌, Option, Some, None, if◌then◌else◌}
use Rattle.mc_model.specs.synod.OneSlot.{Vote}
use Rattle.mc_model.specs.synod.Packet.{Slot, TopVote, same_slot, slot_at}

-- The record of a slot: the ballot promised, 0 where none is, and the vote. It outlives a restart.
pub record SlotRecord : Type 0 where
  pub promised : ℕ
  pub vote : Option Vote

abbrev pub blank : SlotRecord
blank = record { promised = 0; vote = None }

-- the records of a node, by slot
abbrev pub Records : Type 0
Records = Slot → SlotRecord

abbrev pub with_record : Records → Slot → SlotRecord → Records
with_record records slot new = λ other. if same_slot other slot then new else records other

-- a promise is given at a ballot above the one promised, and a vote at one that is not below it
abbrev pub MayPromise : SlotRecord → ℕ → Type 0
MayPromise r ballot = r.promised < ballot

abbrev pub MayVote : SlotRecord → ℕ → Type 0
MayVote r ballot = r.promised ≤ ballot

abbrev pub after_promise : SlotRecord → ℕ → SlotRecord
after_promise r ballot = record { promised = ballot; vote = r.vote }

abbrev pub after_vote : Vote → SlotRecord
after_vote vote = record { promised = vote.ballot; vote = Some vote }

-- what an acceptor tells of a message: its vote at the highest place at which it has one, or that it has none
pub record IsTop (records : Records) (id : ℕ) (told : TopVote) : Type 0 where
  pub about : told.id ≡ id
  pub voted : (records (slot_at id told.place)).vote ≡ Some told.vote
  pub highest : (place : ℕ) (vote : Vote) → (records (slot_at id place)).vote ≡ Some vote → place ≤ told.place

abbrev pub IsTold : Records → ℕ → Option TopVote → Type 0
IsTold records id None = (place : ℕ) → (records (slot_at id place)).vote ≡ None
IsTold records id (Some told) = IsTop records id told
