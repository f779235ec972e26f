-- What a request that waited is answered, and what of it states the fate of a message (SMPP 3.4, 4.4.2, 4.8.2, 4.9.2
-- and appendix B).
use Rattle.std.specs.Prelude.{◌≡◌, ℕ, ◌+◌, ◌≤◌, true, List, ◌∷◌, Option, Some, None}
use Rattle.mc_model.specs.message.Ids.{node_of}
use Rattle.mc_model.specs.message.Submission.{Submission}
use Rattle.mc_model.specs.message.Decree.{Decree, Deleted, Delivered, Expired, Failed, Final, Kind, Rejected, Taken, Told, Undeliverable}
use Rattle.mc_model.specs.message.Chain.{final_in, taken_in}
use Rattle.mc_model.specs.node.Actor.{Actor, Cancel, Query, Request, Submit, Waiting, id_in, name_of}
use Rattle.mc_model.specs.node.Room.{IsWaiting}
use Rattle.mc_model.specs.node.Knowledge.{Knows, KnowsNothing}
use Rattle.mc_model.specs.node.Settling.{IsSettled}
use Rattle.mc_model.specs.node.Proposal.{IsMatch, IsOwner}

pub data Answer : Type 0 where
  -- ESME_ROK to a submit_sm
  Accepted : Answer
  -- ESME_ROK to a query_sm, with the state of this chain
  Shown : List Decree → Answer
  -- ESME_ROK to a cancel_sm, by this chain
  Removed : List Decree → Answer
  -- ESME_RCANCELFAIL, by this chain
  Kept : List Decree → Answer
  -- ESME_RQUERYFAIL: the message is another's
  NotOwner : Answer
  -- ESME_RCANCELFAIL: the cancel_sm does not match the message of this chain
  NotMatched : List Decree → Answer
  -- ESME_RINVMSGID: there is no such message
  Unknown : Answer
  -- ESME_RSYSERR: it waited too long
  TooLate : Answer

-- how long a request waits at most, in seconds
abbrev pub longest_wait : ℕ
longest_wait = 30

-- by its state and its newest decree: a message that was taken, or of which an attempt failed, is to be deleted; one of which an
-- attempt is open, or that has another final state than DELETED, is kept
abbrev pub KeepsMessage : Option Final → Kind → Type 0
KeepsMessage None (Taken message) = ⊥
KeepsMessage None (Failed error) = ⊥
KeepsMessage None kind = Unit {0}
KeepsMessage (Some Delivered) kind = Unit {0}
KeepsMessage (Some Expired) kind = Unit {0}
KeepsMessage (Some Deleted) kind = ⊥
KeepsMessage (Some Undeliverable) kind = Unit {0}
KeepsMessage (Some Rejected) kind = Unit {0}

pub record IsUnknown (nodes node : ℕ) (a : Actor) (w : Waiting) : Type 0 where
  pub nothing : KnowsNothing nodes a.received (id_in w.request)
  pub settled : IsSettled nodes a.received (name_of node a w) None

pub record IsAccepted (nodes : ℕ) (a : Actor) (id : ℕ) : Type 0 where
  pub chain : List Decree
  pub known : Knows nodes a.received id chain

-- a query_sm is answered once it is settled
pub record IsShown (nodes node : ℕ) (a : Actor) (w : Waiting) (account source : List ℕ) (chain : List Decree) : Type 0 where
  pub taken : Submission
  pub known : Knows nodes a.received (id_in w.request) chain
  pub settled : IsSettled nodes a.received (name_of node a w) (Some chain)
  pub message : taken_in chain ≡ Some taken
  pub owner : IsOwner taken account source

pub record IsNotOwner (nodes node : ℕ) (a : Actor) (w : Waiting) (account source : List ℕ) : Type 0 where
  pub chain : List Decree
  pub taken : Submission
  pub known : Knows nodes a.received (id_in w.request) chain
  pub settled : IsSettled nodes a.received (name_of node a w) (Some chain)
  pub message : taken_in chain ≡ Some taken
  pub other : IsOwner taken account source → ⊥

-- a cancel_sm is answered once it is settled, and the chain known then or later decides
pub record IsRemoved (nodes : ℕ) (a : Actor) (w : Waiting) (account source destination : List ℕ)
    (chain : List Decree) : Type 0 where
  pub taken : Submission
  pub known : Knows nodes a.received (id_in w.request) chain
  pub settled : w.settled ≡ true
  pub message : taken_in chain ≡ Some taken
  pub matched : IsMatch taken account source destination
  pub deleted : final_in chain ≡ Some Deleted

pub record IsKept (nodes : ℕ) (a : Actor) (w : Waiting) (account source destination : List ℕ) (chain : List Decree) : Type 0 where
  pub taken : Submission
  pub newest : Decree
  pub older : List Decree
  pub known : Knows nodes a.received (id_in w.request) chain
  pub settled : w.settled ≡ true
  pub message : taken_in chain ≡ Some taken
  pub matched : IsMatch taken account source destination
  pub chain_is : chain ≡ newest ∷ older
  pub kept : KeepsMessage (final_in chain) newest.kind

pub record IsNotMatched (nodes : ℕ) (a : Actor) (w : Waiting) (account source destination : List ℕ)
    (chain : List Decree) : Type 0 where
  pub taken : Submission
  pub known : Knows nodes a.received (id_in w.request) chain
  pub settled : w.settled ≡ true
  pub message : taken_in chain ≡ Some taken
  pub other : IsMatch taken account source destination → ⊥

abbrev pub FitsSubmit : ℕ → Actor → ℕ → Answer → Type 0
FitsSubmit nodes a id Accepted = IsAccepted nodes a id
FitsSubmit nodes a id answer = ⊥

abbrev pub FitsQuery : ℕ → ℕ → Actor → Waiting → List ℕ → List ℕ → Answer → Type 0
FitsQuery nodes node a w account source (Shown chain) = IsShown nodes node a w account source chain
FitsQuery nodes node a w account source NotOwner = IsNotOwner nodes node a w account source
FitsQuery nodes node a w account source Unknown = IsUnknown nodes node a w
FitsQuery nodes node a w account source answer = ⊥

abbrev pub FitsCancel : ℕ → ℕ → Actor → Waiting → List ℕ → List ℕ → List ℕ → Answer → Type 0
FitsCancel nodes node a w account source destination (Removed chain) = IsRemoved nodes a w account source destination chain
FitsCancel nodes node a w account source destination (Kept chain) = IsKept nodes a w account source destination chain
FitsCancel nodes node a w account source destination (NotMatched chain) = IsNotMatched nodes a w account source destination chain
FitsCancel nodes node a w account source destination Unknown = IsUnknown nodes node a w
FitsCancel nodes node a w account source destination answer = ⊥

-- what a request is answered by what its node knows
abbrev pub FitsRequest : ℕ → ℕ → Actor → Waiting → Request → Answer → Type 0
FitsRequest nodes node a w (Submit id message) answer = FitsSubmit nodes a id answer
FitsRequest nodes node a w (Query id account source) answer = FitsQuery nodes node a w account source answer
FitsRequest nodes node a w (Cancel id account source destination) answer =
    FitsCancel nodes node a w account source destination answer

-- or because it waited too long
abbrev pub IsAnswer : ℕ → ℕ → Actor → Waiting → Answer → Type 0
IsAnswer nodes node a w TooLate = w.since + longest_wait ≤ a.clock
IsAnswer nodes node a w answer = FitsRequest nodes node a w w.request answer

pub record MayReply (nodes node : ℕ) (a : Actor) (ticket id : ℕ) (answer : Answer) : Type 0 where
  pub asked : IsWaiting a id ticket
  pub fits : IsAnswer nodes node a asked.waiting answer

-- a chain ends in a Told of the node, in this incarnation
pub record IsToldBy (node : ℕ) (a : Actor) (chain : List Decree) : Type 0 where
  pub told : Decree
  pub older : List Decree
  pub chain_is : chain ≡ told ∷ older
  pub kind : told.kind ≡ Told
  pub author : told.author ≡ record { node = node; incarnation = a.incarnation }

-- a receipt is written by the node that the id names, on a Told of its own in this incarnation
pub record MayReport (nodes node : ℕ) (a : Actor) (id : ℕ) (chain : List Decree) : Type 0 where
  pub named : node_of id ≡ node
  pub known : Knows nodes a.received id chain
  pub told : IsToldBy node a chain
