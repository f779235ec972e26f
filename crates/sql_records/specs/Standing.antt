-- Which records the rows of `slots` stand for (own).
use Rattle.std.specs.Prelude.{◌≡◌, ℕ, ◌<◌, ℤ, pos, List, [], Option, Some, None}
use Rattle.std.specs.List.{AllZip}
use Rattle.mc_model.specs.message.Chain.{Chain, IsPermitted}
use Rattle.mc_model.specs.message.Ids.{IsId}
use Rattle.mc_model.specs.synod.Acceptor.{Records, SlotRecord, blank}
use Rattle.mc_model.specs.synod.Ballot.{IsBallot}
use Rattle.mc_model.specs.synod.OneSlot.{Vote}
use Rattle.mc_model.specs.synod.Packet.{Slot, slot_of}
use Rattle.node_model.specs.Recorded.{named_places}
use Rattle.fate_chain.specs.Bytes.{IsSpelled}
use Rattle.synod_acceptor.specs.Votes.{IsInOrder, Record, record_of, slot_recorded}
use Rattle.record_rows.specs.Content.{Body, Entry, Slot as Key, Slots}

abbrev pub key_of : Slot → Key
key_of slot = record { id = pos slot.id; place = pos slot.place }

-- the row stands under the key of this slot, which names a message and a place
pub record IsKeyOf (slot : Slot) (key : Key) : Type 0 where
  pub id : IsId slot.id
  pub place : slot.place < named_places
  pub is : key ≡ key_of slot

-- the octets are those of a chain that stands in this slot
pub record IsChainIn (slot : Slot) (octets : List ℕ) (chain : Chain) : Type 0 where
  pub spelled : IsSpelled octets chain
  pub permitted : IsPermitted chain.id chain.decrees
  pub stands : slot_of chain.id chain.decrees ≡ slot

abbrev pub chain_in : Slot → Vote → Chain
chain_in slot vote = record { id = slot.id; decrees = vote.chain }

-- no vote: the ballot 0, and no octets
pub record IsUncast (number : ℤ) (octets : List ℕ) : Type 0 where
  pub voted : number ≡ pos 0
  pub chain : octets ≡ []

pub record IsCast (slot : Slot) (vote : Vote) (number : ℤ) (octets : List ℕ) : Type 0 where
  pub voted : number ≡ pos vote.ballot
  pub ballot : IsBallot vote.ballot
  pub chain : IsChainIn slot octets (chain_in slot vote)

abbrev pub IsVoteBy : Option Vote → Slot → ℤ → List ℕ → Type 0
IsVoteBy None slot number octets = IsUncast number octets
IsVoteBy (Some vote) slot number octets = IsCast slot vote number octets

abbrev pub IsVoteIn : Slot → Option Vote → Body → Type 0
IsVoteIn slot vote body = IsVoteBy vote slot body.voted body.chain

-- a row is that of a slot and of the record there
pub record IsRowOf (slot : Slot) (r : SlotRecord) (row : Entry) : Type 0 where
  pub key : IsKeyOf slot row.0
  pub promised : row.1.promised ≡ pos r.promised
  pub ballot : IsBallot r.promised
  pub vote : IsVoteIn slot r.vote row.1
  pub ordered : IsInOrder r

abbrev pub StandsFor : Entry → Record → Type 0
StandsFor row r = IsRowOf (slot_recorded r) (record_of r) row

abbrev pub StandsForNone : Entry → Type 0
StandsForNone row = (slot : Slot) (r : SlotRecord) → IsRowOf slot r row → ⊥

abbrev pub StandForEach : List Entry → List Record → Type 0
StandForEach = AllZip StandsFor

-- each row is that of a slot and its record, and where no row stands there is no record
pub record StandFor (slots : Slots) (records : Records) : Type 0 where
  pub rows : (key : Key) (body : Body) → slots key ≡ Some body → (slot : Slot) × IsRowOf slot (records slot) (key, body)
  pub blanks : (slot : Slot) → slots (key_of slot) ≡ None → records slot ≡ blank
