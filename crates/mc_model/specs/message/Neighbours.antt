-- Which decree may follow which (own; the states are those of SMPP 3.4, 5.2.28).
use Rattle.std.specs.Prelude.{◌≡◌, ℕ, ◌+◌, ◌*◌, ◌<◌, ◌≤◌}
use Rattle.mc_model.specs.message.Ids.{incarnation_of, node_of}
use Rattle.mc_model.specs.message.Submission.{Submission}
use Rattle.mc_model.specs.message.Decree.{
  Attempt,
  Author,
  Deleted,
  Delivered,
  Expired,
  Failed,
  Fate,
  Final,
  Kind,
  Rejected,
  Taken,
  Told,
  Undeliverable,
}
use Rattle.mc_model.specs.message.Receipts.{AsksReceipt}

-- how often a message is attempted at most, and how many seconds after a failure, times the attempts so far, the next attempt
-- comes (own)
abbrev pub most_attempts : ℕ
most_attempts = 8

abbrev pub retry_delay : ℕ
retry_delay = 60

-- the first decree of a message: it is taken by the node and incarnation that its id names
pub record IsTaken (id : ℕ) (author : Author) (moment : ℕ) (message : Submission) : Type 0 where
  pub node : author.node ≡ node_of id
  pub incarnation : author.incarnation ≡ incarnation_of id
  pub expiry : moment < message.expiry
  pub schedule : message.schedule < message.expiry

abbrev pub MayBegin : ℕ → Author → ℕ → Kind → Type 0
MayBegin id author moment (Taken message) = IsTaken id author moment message
MayBegin id author moment (Attempt number) = ⊥
MayBegin id author moment (Failed error) = ⊥
MayBegin id author moment (Fate final error) = ⊥
MayBegin id author moment Told = ⊥

-- the first attempt is made from the schedule on and before the expiry
pub record IsFirstAttempt (message : Submission) (moment number : ℕ) : Type 0 where
  pub first : number ≡ 1
  pub scheduled : message.schedule ≤ moment
  pub valid : moment < message.expiry

-- attempt a + 1 is made before the expiry and at least 60 * a seconds after the failure of attempt a, of which
-- there are eight at most
pub record IsNextAttempt (message : Submission) (attempt failed moment number : ℕ) : Type 0 where
  pub next : number ≡ attempt + 1
  pub most : attempt < most_attempts
  pub valid : moment < message.expiry
  pub delayed : failed + retry_delay * attempt ≤ moment

-- an attempt is declared failed by its node, in the incarnation that made it or a later one
pub record IsFailureOf (attempted author : Author) : Type 0 where
  pub node : author.node ≡ attempted.node
  pub incarnation : attempted.incarnation ≤ author.incarnation

-- the receipt on a final state of which one was asked is told by the node that took the message, in any incarnation
pub record IsTelling (message : Submission) (home : ℕ) (final : Final) (author : Author) : Type 0 where
  pub node : author.node ≡ home
  pub asked : AsksReceipt final message

-- What may follow a message's newest decree, by what both decide: message is what was taken, home the node that took it,
-- attempt the number of attempts so far; then the newest decree's author, moment and kind, and the next one's.
abbrev pub MayFollow : Submission → ℕ → ℕ → Author → ℕ → Kind → Author → ℕ → Kind → Type 0
-- a message that was taken is attempted, expires or is deleted
MayFollow message home attempt old before (Taken taken) author moment (Attempt number) = IsFirstAttempt message moment number
MayFollow message home attempt old before (Taken taken) author moment (Fate Expired error) = message.expiry ≤ moment
MayFollow message home attempt old before (Taken taken) author moment (Fate Deleted error) = Unit {0}
-- an attempt fails, or its author alone says its outcome
MayFollow message home attempt old before (Attempt tried) author moment (Failed error) = IsFailureOf old author
MayFollow message home attempt old before (Attempt tried) author moment (Fate Delivered error) = author ≡ old
MayFollow message home attempt old before (Attempt tried) author moment (Fate Undeliverable error) = author ≡ old
MayFollow message home attempt old before (Attempt tried) author moment (Fate Rejected error) = author ≡ old
-- after a failure there is another attempt, or the message expires, is deleted, or can't be delivered
MayFollow message home attempt old before (Failed cause) author moment (Attempt number) =
    IsNextAttempt message attempt before moment number
MayFollow message home attempt old before (Failed cause) author moment (Fate Expired error) = message.expiry ≤ moment
MayFollow message home attempt old before (Failed cause) author moment (Fate Deleted error) = Unit {0}
MayFollow message home attempt old before (Failed cause) author moment (Fate Undeliverable error) = attempt ≡ most_attempts
-- behind a fate its receipt is told; nothing follows that, and no other decree follows
MayFollow message home attempt old before (Fate final error) author moment Told = IsTelling message home final author
MayFollow message home attempt old before kind author moment next = ⊥
