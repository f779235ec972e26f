-- Which messages a node may name, that is of which it may begin the next attempt (own).
use Rattle.std.specs.Prelude.{◌≡◌, ◌≤◌, ◌↔◌, ℕ, ◌/◌, ◌==◌, ◌||◌, max, Bool, true, IsTrue, if◌then◌else◌}
use Rattle.std.specs.Prelude.{List, All, Contains, count_by, filter, map}
use Rattle.std.specs.List.{flat_map}
use Rattle.waiting_messages.specs.Spreads.{Begins}
use Rattle.waiting_messages.specs.Queues.{Queue, all_named, all_passed, first_due, is_due, is_for}

-- One of these messages goes to the account and is due, and the node begins their attempts.
pub record IsNameable (spread : List (List (List ℕ))) (node now : ℕ) (account : List ℕ) (queue : Queue) : Type 0 where
  pub is_for : is_for account queue ≡ true
  pub is_due : is_due now queue ≡ true
  pub begins : Begins spread node queue.home account

-- A message is one of the first so many that are due, of one of these queues, whose messages go to the account and have attempts that the node begins.
pub record IsFirstOfOne (spread : List (List (List ℕ))) (node now share : ℕ) (account : List ℕ) (queues : List Queue) (due : ℕ × ℕ) : Type 0 where
  pub queue : Queue
  pub one : Contains queues queue
  pub nameable : IsNameable spread node now account queue
  pub first : Contains (first_due now share queue) due

-- Those that were named stay named, and of each queue the first so many may be named with them, and no others.
pub record NamesFirst (spread : List (List (List ℕ))) (node now share : ℕ) (account : List ℕ) (queues : List Queue) (old new : List ℕ) : Type 0 where
  pub dues : List (ℕ × ℕ)
  pub are_put : new ≡ all_named old dues
  pub are_first : All (IsFirstOfOne spread node now share account queues) dues

-- So many are the first of a queue, and not more than may be named.
pub record NamesFew (spread : List (List (List ℕ))) (node now most : ℕ) (account : List ℕ) (queues : List Queue) (old new : List ℕ) : Type 0 where
  pub share : ℕ
  pub within : share ≤ most
  pub named : NamesFirst spread node now share account queues old new

-- A test that tells of each queue whether one of its messages is due and goes to the account, and the node begins their attempts.
pub record NameableTest (spread : List (List (List ℕ))) (node now : ℕ) (account : List ℕ) : Type 0 where
  pub passes : Queue → Bool
  pub tells : (queue : Queue) → IsTrue (passes queue) ↔ IsNameable spread node now account queue

-- How many of each queue are named, if so many may be in all, of so many queues: equal parts, and one at least; none if none may be, or there is no queue.
abbrev pub share_of : ℕ → ℕ → ℕ
share_of most among = if (among == 0) || (most == 0) then 0 else max (most / among) 1

-- of each queue that passes the test the first so many that are due, queue by queue
abbrev pub firsts_in : (Queue → Bool) → ℕ → ℕ → List Queue → List (ℕ × ℕ)
firsts_in passes now share queues = flat_map (first_due now share) (filter passes queues)

abbrev pub passed_if : (Queue → Bool) → ℕ → ℕ → Queue → Queue
passed_if passes now share queue = if passes queue then all_passed now queue (first_due now share queue) else queue

-- they are named once more in those queues; the others stay as they are
abbrev pub all_passed_in : (Queue → Bool) → ℕ → ℕ → List Queue → List Queue
all_passed_in passes now share queues = map (passed_if passes now share) queues

-- Of each queue that passes its share is named, the first that are due: they are put among the ids, and in what is left of the queues are named once more.
pub record NamesShares (spread : List (List (List ℕ))) (node now most : ℕ) (account : List ℕ) (queues left : List Queue) (old new : List ℕ) : Type 0 where
  pub test : NameableTest spread node now account
  pub named : new ≡ all_named old (firsts_in test.passes now (share_of most (count_by test.passes queues)) queues)
  pub passed : left ≡ all_passed_in test.passes now (share_of most (count_by test.passes queues)) queues
