-- The attempts that a worker makes, by the slips of its seat and by what its gate gave (own).
use Rattle.std.specs.Prelude.{◌≡◌, ◌⊎◌, ℕ, List, [], ◌∷◌, ◌++◌, Option, Some, None, Result, Ok, Err, Bool, true, false}
use Rattle.mc_types.specs.declared.slot.Slot.{Slot}
use Rattle.mc_model.specs.message.Chain.{Chain, taken_in}
use Rattle.mc_model.specs.message.Submission.{Submission}
use Rattle.pdu_bodies.specs.declared.pdu.Pdu.{Pdu}
use Rattle.delivery.specs.declared.outcome.Outcome.{Outcome}
use Rattle.delivery.specs.Kept.{outcome_kept}
use Rattle.worker_parts.specs.Attempts.{AreOctetsOf, outcome_by}
use Rattle.node_threads.specs.Step.TheVariants as steps
use Rattle.node_threads.specs.Slips.{Slipped}
use Rattle.node_threads.specs.Refusal.{Refusal}
use Rattle.node_threads.specs.Refusal.TheVariants as refusals
use Rattle.sessions.specs.Session.{sequence_after}

-- an attempt that is not granted is skipped, and no other refusal is
abbrev pub skipping : {T : Type 0} → Result T Refusal → Result (Option T) Refusal
skipping (Ok granted) = Ok (Some granted)
skipping (Err refusals.Full) = Err refusals.Full
skipping (Err refusals.Broken) = Err refusals.Broken
skipping (Err refusals.Memory) = Err refusals.Memory
skipping (Err (refusals.Grant reason)) = Ok None
skipping (Err refusals.NoSeat) = Err refusals.NoSeat
skipping (Err refusals.NoSuchPacket) = Err refusals.NoSuchPacket
skipping (Err refusals.NotGranted) = Err refusals.NotGranted
skipping (Err refusals.StrangeLife) = Err refusals.StrangeLife
skipping (Err refusals.Device) = Err refusals.Device
skipping (Err refusals.NoSuchNode) = Err refusals.NoSuchNode
skipping (Err refusals.Spent) = Err refusals.Spent
skipping (Err refusals.Damaged) = Err refusals.Damaged

-- the gate was handed the octets of a chain's deliver_sm for the account that the message goes to, and gave this
pub record IsCarried {G : Type 0} (answers : G → List ℕ → List ℕ → Option Pdu → G → Type 0) (chain : Chain) (sequence : ℕ)
    (old : G) (answer : Option Pdu) (new : G) : Type 0 where
  pub taken : Submission
  pub message : taken_in chain.decrees ≡ Some taken
  pub octets : List ℕ
  pub octets_are : AreOctetsOf chain.decrees sequence octets
  pub gave : answers old taken.target octets answer new

-- so it was with the chain that a grant gave out
pub record IsCarriedBy {G : Type 0} (answers : G → List ℕ → List ℕ → Option Pdu → G → Type 0) (granted : Slipped) (sequence : ℕ)
    (old : G) (answer : Option Pdu) (new : G) : Type 0 where
  pub chain : Chain
  pub gives : granted.entry.done.given.granted ≡ Some chain
  pub carried : IsCarried answers chain sequence old answer new

-- a message was granted at a node
abbrev pub IsGrantAt : ℕ → Slipped → Type 0
IsGrantAt node granted = (id : ℕ) × (granted.entry.done.step ≡ steps.Grant node id)

-- this came of an attempt there, by the answer or by none
pub record IsAnsweredAt (node sequence : ℕ) (answer : Option Pdu) (answered : Slipped) : Type 0 where
  pub slot : Slot
  pub outcome : Outcome
  pub step : answered.entry.done.step ≡ steps.Answered node slot outcome
  pub by : outcome_kept outcome ≡ outcome_by sequence answer

-- an attempt at a node, with the sequence_number of its octets: granted, carried, and answered with what the gate gave
pub record IsAttempt {G : Type 0} (answers : G → List ℕ → List ℕ → Option Pdu → G → Type 0) (node sequence : ℕ)
    (old : G) (granted answered : Slipped) (new : G) : Type 0 where
  pub answer : Option Pdu
  pub granted_is : IsGrantAt node granted
  pub carried : IsCarriedBy answers granted sequence old answer new
  pub answered_is : IsAnsweredAt node sequence answer answered

-- these slips are attempts at a node, one after another, whose octets are numbered from one number to another
abbrev pub AreAttempts : {G : Type 0} → (G → List ℕ → List ℕ → Option Pdu → G → Type 0) → ℕ → ℕ → G → List Slipped → ℕ → G → Type 0
AreAttempts answers node sequence old [] last new = (last ≡ sequence) × (new ≡ old)
AreAttempts answers node sequence old (granted ∷ []) last new = ⊥
AreAttempts {G} answers node sequence old (granted ∷ answered ∷ later) last new =
    (between : G) × IsAttempt answers node sequence old granted answered between × AreAttempts answers node (sequence_after sequence) between later last new

-- ---- what is left behind the slips that there were

-- nothing, or a grant of which nothing came
abbrev pub IsUnanswered : ℕ → List Slipped → Type 0
IsUnanswered node left = (left ≡ []) ⊎ ((granted : Slipped) × (left ≡ granted ∷ []) × IsGrantAt node granted)

pub record Leaves (node : ℕ) (old new : List Slipped) : Type 0 where
  pub left : List Slipped
  pub behind : new ≡ old ++ left
  pub unanswered : IsUnanswered node left

-- one attempt, if it was granted, and nothing else
abbrev pub Tries : {G : Type 0} → (G → List ℕ → List ℕ → Option Pdu → G → Type 0) → ℕ → ℕ → List Slipped → G → List Slipped → G → Bool → Type 0
Tries answers node sequence old was new is true =
    (granted answered : Slipped) × (new ≡ old ++ granted ∷ answered ∷ []) × IsAttempt answers node sequence was granted answered is
Tries answers node sequence old was new is false = (new ≡ old) × (is ≡ was)

-- the attempts of a worker that goes on with this number, numbered from 1
pub record HasWorkedTo {G : Type 0} (answers : G → List ℕ → List ℕ → Option Pdu → G → Type 0) (node : ℕ) (old : List Slipped) (was : G)
    (new : List Slipped) (is : G) (last : ℕ) : Type 0 where
  pub made : List Slipped
  pub behind : new ≡ old ++ made
  pub attempts : AreAttempts answers node 1 was made last is

abbrev pub HasWorked : {G : Type 0} → (G → List ℕ → List ℕ → Option Pdu → G → Type 0) → ℕ → List Slipped → G → List Slipped → G → Type 0
HasWorked answers node old was new is = (last : ℕ) × HasWorkedTo answers node old was new is last

-- so a worker stops at a refusal
pub record HasStopped {G : Type 0} (answers : G → List ℕ → List ℕ → Option Pdu → G → Type 0) (node : ℕ) (old : List Slipped) (was : G)
    (new : List Slipped) : Type 0 where
  pub between : List Slipped
  pub then : G
  pub worked : HasWorked answers node old was between then
  pub leaves : Leaves node between new
