-- A node by itself at rest: nothing waits, no round runs, and what it knows is the table.
use Rattle.std.specs.Prelude.{◌≡◌, ℕ, pred, ◌≤◌, true, false, List, [], ◌∷◌, get_or, length, Some, None}
use Rattle.std.specs.Ordering.{nat_cmp}
use Rattle.std.specs.Map.{keys_of}
use Rattle.std.specs.List.Sorted.{IsStrictlySortedBy}
use Rattle.mc_model.specs.message.Ids.{IsIncarnation}
use Rattle.mc_model.specs.message.Submission.{Submission}
use Rattle.mc_model.specs.message.Decree.{Decree}
use Rattle.mc_model.specs.message.Chain.{taken_in}
use Rattle.mc_model.specs.synod.OneSlot.{vote_at}
use Rattle.mc_model.specs.synod.Packet.{slot_at}
use Rattle.mc_model.specs.synod.Acceptor.{Records, blank}
use Rattle.node_model.specs.Kept.{Kept, message_at}
use Rattle.node_model.specs.Packets.{was_given}
use Rattle.table_laws.specs.Tables.{Entry, TableNode, entry_at, known_as}

-- a node voted at each place of a chain, for the chain up to there
abbrev pub HasVotes : Records → ℕ → List Decree → Type 0
HasVotes records id [] = Unit {0}
HasVotes records id (newest ∷ older) =
    ((ballot : ℕ) × ((records (slot_at id (length older))).vote ≡ Some (vote_at ballot (newest ∷ older)))) × HasVotes records id older

-- nothing was promised, voted, tried or attempted at this place
pub record IsFresh (k : Kept) (id place : ℕ) : Type 0 where
  pub record_is : k.records (slot_at id place) ≡ blank
  pub seen : get_or (message_at k id).seen place 0 ≡ 0
  pub ungranted : (message_at k id).granted place ≡ false
  pub unclosed : (message_at k id).closed place ≡ None

-- This chain of a message is known and voted for, no round runs, and nothing is beyond it.
pub record IsReady (k : Kept) (id : ℕ) (chain : List Decree) : Type 0 where
  pub known : (message_at k id).known ≡ known_as chain
  pub idle : (message_at k id).round ≡ None
  pub votes : HasVotes k.records id chain
  pub beyond : (place : ℕ) → length chain ≤ place → IsFresh k id place

-- a message that there is was taken, under an id that was given
pub record IsTaken (k : Kept) (id : ℕ) (chain : List Decree) : Type 0 where
  pub message : Submission
  pub taken : taken_in chain ≡ Some message
  pub given : was_given k id ≡ true

abbrev pub IsTakenIfAny : Kept → ℕ → List Decree → Type 0
IsTakenIfAny k id [] = Unit {0}
IsTakenIfAny k id (newest ∷ older) = IsTaken k id (newest ∷ older)

-- What is kept of a message is its entry; an attempt that is its newest decree is not closed.
pub record IsAtRest (k : Kept) (id : ℕ) (entry : Entry) : Type 0 where
  pub ready : IsReady k id entry.chain
  pub taken : IsTakenIfAny k id entry.chain
  pub granted : (message_at k id).granted (pred (length entry.chain)) ≡ entry.granted
  pub unclosed : (message_at k id).closed (pred (length entry.chain)) ≡ None

-- Nobody waits, and each message is at rest with its entry of the table.
pub record IsResting (k : Kept) (t : TableNode) : Type 0 where
  pub up : k.up ≡ true
  pub life : IsIncarnation k.incarnation
  pub incarnation : k.incarnation ≡ t.incarnation
  pub clock : k.clock ≡ t.clock
  pub serial : k.serial ≡ t.serial
  pub ticket : k.ticket ≡ t.ticket
  pub waits : k.held ≡ []
  pub ids : keys_of k.messages ≡ keys_of t.table
  pub ascends : IsStrictlySortedBy nat_cmp (keys_of t.table)
  pub message : (id : ℕ) → IsAtRest k id (entry_at t.table id)
