-- What nodes send to one another (Paxos Made Simple, 2.2 and 2.3, and the questions of a read).
use Rattle.std.specs.Prelude.{ℕ, pred, Bool, ◌==◌, ◌&&◌, List, length, Option}
use Rattle.mc_model.specs.message.Decree.{Decree}
use Rattle.mc_model.specs.synod.OneSlot.{Vote}

-- A place in the chain of a message. One synod settles the chain up to it: at place p stand chains of p + 1 decrees.
pub record Slot : Type 0 where
  pub id : ℕ
  pub place : ℕ

abbrev pub slot_at : ℕ → ℕ → Slot
slot_at id place = record { id = id; place = place }

-- the slot in which a chain of a message stands
abbrev pub slot_of : ℕ → List Decree → Slot
slot_of id chain = slot_at id (pred (length chain))

abbrev pub same_slot : Slot → Slot → Bool
same_slot a b = (a.id == b.id) && (a.place == b.place)

-- by what the questions of one request are known: the node and incarnation at which it waits, and its ticket there
pub record Name : Type 0 where
  pub node : ℕ
  pub incarnation : ℕ
  pub ticket : ℕ

-- an acceptor's vote at the highest place of a message's chain at which it voted
pub record TopVote : Type 0 where
  pub id : ℕ
  pub place : ℕ
  pub vote : Vote

abbrev pub top_at : Slot → Vote → TopVote
top_at slot vote = record { id = slot.id; place = slot.place; vote = vote }

-- Each packet names its sender first.
pub data Packet : Type 0 where
  -- asks for a promise at a ballot
  Prepare : ℕ → Slot → ℕ → Packet
  -- promises to vote below the ballot no more, and reports the highest vote
  Promise : ℕ → Slot → ℕ → Option Vote → Packet
  -- asks for a vote
  Propose : ℕ → Slot → Vote → Packet
  -- tells of a vote
  Voted : ℕ → Slot → Vote → Packet
  -- refuses what was asked at a ballot, for a promise at another
  Refused : ℕ → Slot → ℕ → ℕ → Packet
  -- asks how far a message's chain has come, and tells it
  Ask : ℕ → ℕ → Name → Packet
  Tell : ℕ → Name → Option TopVote → Packet
