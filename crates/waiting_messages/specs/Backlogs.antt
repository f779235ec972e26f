-- The messages that wait for their next attempt, by the account that they go to and the node that took them (own).
use Rattle.std.specs.Prelude.{◌≡◌, ◌⊎◌, ℕ, ◌&&◌, Bool, false, List, [], ◌∷◌, ◌++◌, length, position, slice_get, slice_set}
use Rattle.std.specs.Prelude.{Option, Some, None, is_some, unwrap_or, if◌then◌else◌}
use Rattle.mc_model.specs.message.Submission.{Submission}
use Rattle.mc_model.specs.message.Chain.{Chain, home_in, taken_in}
use Rattle.waiting_messages.specs.Queues.{Queue, empty, is_of}
use Rattle.waiting_messages.specs.Queues as waiting
use Rattle.waiting_messages.specs.Attempts.{next_due}

pub record Backlog : Type 0 where
  pub queues : List Queue
  -- whether there was memory for each message that came, since it was last asked
  pub is_whole : Bool

abbrev pub place_of : List ℕ → ℕ → List Queue → Option ℕ
place_of account home queues = position (is_of account home) queues

abbrev pub with_at : Option Queue → ℕ → (Queue → Queue) → List Queue → List Queue
with_at None place change queues = queues
with_at (Some queue) place change queues = slice_set queues place (change queue)

-- the queue at a place is changed, if there is one
abbrev pub changed_at : ℕ → (Queue → Queue) → List Queue → List Queue
changed_at place change queues = with_at (slice_get queues place) place change queues

-- there is a queue of this account and home, behind the others if there was none
abbrev pub with_queue : List ℕ → ℕ → List Queue → List Queue
with_queue account home queues = if is_some (place_of account home queues) then queues else queues ++ empty account home ∷ []

abbrev pub place_in : List ℕ → ℕ → List Queue → ℕ
place_in account home queues = unwrap_or (place_of account home queues) (length queues)

-- a message comes to wait in the queue of its account and home, or is due from another second on
abbrev pub put : List ℕ → ℕ → ℕ → ℕ → List Queue → List Queue
put account home id from queues = changed_at (place_in account home queues) (waiting.put id from) (with_queue account home queues)

abbrev pub without_at : Option ℕ → ℕ → List Queue → List Queue
without_at None id queues = queues
without_at (Some place) id queues = changed_at place (waiting.without id) queues

-- it waits no more
abbrev pub without : List ℕ → ℕ → ℕ → List Queue → List Queue
without account home id queues = without_at (place_of account home queues) id queues

-- If there was no memory the message does not wait: its account and home may have a queue more, in which none waits.
abbrev pub IsLeft : List ℕ → ℕ → ℕ → List Queue → List Queue → Type 0
IsLeft account home id old new =
    (new ≡ old) ⊎ (new ≡ changed_at (place_in account home old) (waiting.without id) (with_queue account home old))

-- one of the queue is due, and goes to the account
abbrev pub is_due_for : List ℕ → ℕ → Queue → Bool
is_due_for account now queue = waiting.is_for account queue && waiting.is_due now queue

-- a message came, and there was no memory for it
pub record IsLacking (account : List ℕ) (home id : ℕ) (old new : Backlog) : Type 0 where
  pub is_told : new.is_whole ≡ false
  pub left : IsLeft account home id old.queues new.queues

abbrev pub IsPut : List ℕ → ℕ → ℕ → ℕ → Backlog → Backlog → Type 0
IsPut account home id from old new = (new ≡ record old { queues = put account home id from old.queues }) ⊎ IsLacking account home id old new

abbrev pub IsNotedAt : Option ℕ → List ℕ → ℕ → ℕ → Backlog → Backlog → Type 0
IsNotedAt None account home id old new = new ≡ record old { queues = without account home id old.queues }
IsNotedAt (Some from) account home id old new = IsPut account home id from old new

-- By the newest decree the message waits for its next attempt, or waits no more.
abbrev pub IsNoted : Chain → Backlog → Backlog → Type 0
IsNoted chain old new =
    (taken : Submission) → taken_in chain.decrees ≡ Some taken →
    IsNotedAt (next_due chain.decrees) taken.target (home_in chain.decrees) chain.id old new
