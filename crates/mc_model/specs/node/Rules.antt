-- By which rules a tick starts a round (own).
use Rattle.std.specs.Prelude.{◌≡◌, ◌⊎◌, ℕ, pred, ◌<◌, ◌≤◌, max, true, false, List, ◌∷◌, length, Some}
use Rattle.mc_model.specs.message.Submission.{Submission}
use Rattle.mc_model.specs.message.Decree.{Attempt, Decree, Deleted, Failed, Fate, Kind, Taken, Undeliverable}
use Rattle.mc_model.specs.message.Chain.{MayExtend, taken_in}
use Rattle.mc_model.specs.synod.Lists.{In}
use Rattle.mc_model.specs.synod.OneSlot.{Vote}
use Rattle.mc_model.specs.synod.Packet.{Name, Tell, slot_at, slot_of, top_at}
use Rattle.mc_model.specs.synod.Acceptor.{Records}
use Rattle.mc_model.specs.node.Outcome.{Outcome, decree_of, no_session_error, older_incarnation_error}
use Rattle.mc_model.specs.node.Actor.{Actor, Waiting, id_in, name_of}
use Rattle.mc_model.specs.node.Knowledge.{Knows}
use Rattle.mc_model.specs.node.Reach.{Reach, may_begin}
use Rattle.mc_model.specs.node.Proposal.{IsCancelled, IsFirst}

-- a place at which somebody voted is beyond what the node knows
abbrev pub IsAhead : ℕ → Actor → ℕ → ℕ → Type 0
IsAhead nodes a id place = (chain : List Decree) → Knows nodes a.received id chain → pred (length chain) < place

-- a Tell of a vote at a place, to the questions of a name
pub record ToldBy (a : Actor) (name : Name) (id place : ℕ) (vote : Vote) : Type 0 where
  pub teller : ℕ
  pub heard : In (Tell teller name (Some (top_at (slot_at id place) vote))) a.received

-- to those of a request that waits
pub record WasTold (node : ℕ) (a : Actor) (id place : ℕ) (vote : Vote) : Type 0 where
  pub waiting : Waiting
  pub waits : In waiting a.waiting
  pub about : id_in waiting.request ≡ id
  pub told : ToldBy a (name_of node a waiting) id place vote

-- or the node's own vote
abbrev pub IsShownAt : ℕ → Actor → Records → ℕ → ℕ → Vote → Type 0
IsShownAt node a records id place vote = WasTold node a id place vote ⊎ ((records (slot_at id place)).vote ≡ Some vote)

-- Of the votes that are shown, one at the highest place, and there at the highest ballot.
pub record IsHighest (Shown : ℕ → Vote → Type 0) (place : ℕ) (vote : Vote) : Type 0 where
  pub shown : Shown place vote
  pub place_most : (other : ℕ) (held : Vote) → Shown other held → other ≤ place
  pub ballot_most : (held : Vote) → Shown place held → held.ballot ≤ vote.ballot

-- the decree that a node may put behind a chain at its clock
abbrev pub next_decree : ℕ → Actor → Decree → Kind → Decree
next_decree node a newest kind = record {
  author = record { node = node; incarnation = a.incarnation };
  moment = max a.clock newest.moment;
  kind = kind;
}

-- The newest decree of what a node knows, and what was taken; and the chain that its own decree of a kind makes of it.
pub record GoesFurther (nodes node : ℕ) (a : Actor) (id place : ℕ) (chain : List Decree) (kind : Kind) : Type 0 where
  pub newest : Decree
  pub older : List Decree
  pub taken : Submission
  pub known : Knows nodes a.received id (newest ∷ older)
  pub behind : place ≡ length (newest ∷ older)
  pub message : taken_in (newest ∷ older) ≡ Some taken
  pub chain_is : chain ≡ next_decree node a newest kind ∷ newest ∷ older

-- the newest decree is an attempt of the node, in this incarnation
abbrev pub IsAttemptBy : ℕ → Decree → Type 0
IsAttemptBy node newest = ((number : ℕ) × (newest.kind ≡ Attempt number)) × (newest.author.node ≡ node)

-- or it is the taking of the message, or a failure
abbrev pub IsIdle : Decree → Type 0
IsIdle newest = ((message : Submission) × (newest.kind ≡ Taken message)) ⊎ ((error : ℕ) × (newest.kind ≡ Failed error))

-- a submit_sm waits: its message is to be taken
abbrev pub FitsTake : ℕ → Actor → ℕ → ℕ → List Decree → Type 0
FitsTake node a id place chain = (place ≡ 0) × IsFirst node a id chain

-- a vote stands beyond what is known
pub record FitsFollow (nodes node : ℕ) (a : Actor) (records : Records) (id place : ℕ) (chain : List Decree) : Type 0 where
  pub vote : Vote
  pub highest : IsHighest (IsShownAt node a records id) place vote
  pub ahead : IsAhead nodes a id place
  pub chain_is : chain ≡ vote.chain

-- an attempt of the node was closed
pub record FitsClose (nodes node : ℕ) (a : Actor) (id place : ℕ) (chain : List Decree) : Type 0 where
  pub outcome : Outcome
  pub further : GoesFurther nodes node a id place chain (decree_of outcome)
  pub attempt : IsAttemptBy node further.newest
  pub now : further.newest.author.incarnation ≡ a.incarnation
  pub closed : In (slot_of id (further.newest ∷ further.older), outcome) a.closed

-- an attempt of an older incarnation is lost
pub record FitsLose (nodes node : ℕ) (a : Actor) (id place : ℕ) (chain : List Decree) : Type 0 where
  pub further : GoesFurther nodes node a id place chain (Failed older_incarnation_error)
  pub attempt : IsAttemptBy node further.newest
  pub before : further.newest.author.incarnation < a.incarnation

-- one that was not granted has no target that is up
pub record FitsGiveUp (nodes node : ℕ) (a : Actor) (reach : Reach) (id place : ℕ) (chain : List Decree) : Type 0 where
  pub further : GoesFurther nodes node a id place chain (Failed no_session_error)
  pub attempt : IsAttemptBy node further.newest
  pub now : further.newest.author.incarnation ≡ a.incarnation
  pub granted : In (slot_of id (further.newest ∷ further.older)) a.granted → ⊥
  pub closed : (outcome : Outcome) → In (slot_of id (further.newest ∷ further.older), outcome) a.closed → ⊥
  pub down : reach.up further.taken.target ≡ false

-- a cancel_sm waits that may delete the message
pub record FitsDelete (nodes node : ℕ) (a : Actor) (id place : ℕ) (chain : List Decree) : Type 0 where
  pub further : GoesFurther nodes node a id place chain (Fate Deleted 0)
  pub idle : IsIdle further.newest
  pub cancelled : IsCancelled a id further.taken

-- a decree may follow at the moment that it would have
pub record IsDue (nodes node : ℕ) (a : Actor) (id place : ℕ) (chain : List Decree) (kind : Kind) : Type 0 where
  pub further : GoesFurther nodes node a id place chain kind
  pub may : MayExtend (Some further.taken) (further.newest ∷ further.older) (next_decree node a further.newest kind)

-- after eight failures the message can't be delivered, with the error of the last
pub record FitsUndeliver (nodes node : ℕ) (a : Actor) (id place : ℕ) (chain : List Decree) : Type 0 where
  pub error : ℕ
  pub due : IsDue nodes node a id place chain (Fate Undeliverable error)
  pub failed : due.further.newest.kind ≡ Failed error

-- the next attempt is due and may begin
pub record FitsTry (nodes node : ℕ) (a : Actor) (reach : Reach) (id place : ℕ) (chain : List Decree) : Type 0 where
  pub number : ℕ
  pub due : IsDue nodes node a id place chain (Attempt number)
  pub begins : may_begin reach id due.further.taken.target ≡ true
