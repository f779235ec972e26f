-- The messages of one node that wait for their next attempt and go to one account (own).
use Rattle.std.specs.Prelude.{ℕ, ◌+◌, ◌==◌, ◌&&◌, Bool, false, List, [], fold, min, nat_le, nat_lt, slice_get, take, take_while}
use Rattle.std.specs.Prelude.{Option, Some, None, option_map, if◌then◌else◌}
use Rattle.std.specs.Option.{option_map_or}
use Rattle.std.specs.Ordering.{nat_cmp, ordering_then}
use Rattle.std.specs.declared.cmp.Ordering.{Ordering}
use Rattle.std.specs.BTreeMap.{insert_entry, is_at}
use Rattle.std.specs.BTreeSet.{insert_key}
use Rattle.std.specs.Map.{keys_of, lookup, remove_entry, set_value}
use Rattle.std.specs.Str.{bytes_eq}

-- from when on a message is due, in seconds since 1970, and its number: the earlier come first, and of one second the lower numbers
abbrev pub due_cmp : ℕ × ℕ → ℕ × ℕ → Ordering
due_cmp one other = ordering_then (nat_cmp one.0 other.0) (nat_cmp one.1 other.1)

pub record Queue : Type 0 where
  pub account : List ℕ
  pub home : ℕ
  -- the earliest first, each with how often it was named since it came to wait so
  pub waiting : List ((ℕ × ℕ) × ℕ)
  -- by number from when on each is due
  pub moments : List (ℕ × ℕ)

abbrev pub empty : List ℕ → ℕ → Queue
empty account home = record { account = account; home = home; waiting = []; moments = [] }

abbrev pub is_for : List ℕ → Queue → Bool
is_for account queue = bytes_eq queue.account account

abbrev pub is_of : List ℕ → ℕ → Queue → Bool
is_of account home queue = (queue.home == home) && is_for account queue

-- the earliest is due
abbrev pub is_due : ℕ → Queue → Bool
is_due now queue = option_map_or (λ (entry : (ℕ × ℕ) × ℕ). nat_le entry.0.0 now) (slice_get queue.waiting 0) false

abbrev pub moment_of : ℕ → Queue → Option ℕ
moment_of id queue = lookup (is_at (nat_cmp id)) queue.moments

abbrev pub is_due_from : ℕ → ℕ → Queue → Bool
is_due_from id from queue = option_map_or (λ moment. moment == from) (moment_of id queue) false

abbrev pub without_at : Option ℕ → ℕ → Queue → Queue
without_at None id queue = queue
without_at (Some from) id queue = record queue {
  waiting = remove_entry (is_at (due_cmp (from, id))) queue.waiting;
  moments = remove_entry (is_at (nat_cmp id)) queue.moments;
}

-- the message waits no more
abbrev pub without : ℕ → Queue → Queue
without id queue = without_at (moment_of id queue) id queue

-- a message that does not wait comes to wait
abbrev pub lined_up : ℕ → ℕ → Queue → Queue
lined_up id from queue = record queue {
  waiting = insert_entry due_cmp queue.waiting (from, id) 0;
  moments = insert_entry nat_cmp queue.moments id from;
}

-- the message waits, and is due from this second on; nothing changes if it was so before
abbrev pub put : ℕ → ℕ → Queue → Queue
put id from queue = if is_due_from id from queue then queue else lined_up id from (without id queue)

-- the first of those that are due, so many at most
abbrev pub first_due : ℕ → ℕ → Queue → List (ℕ × ℕ)
first_due now most queue = take most (take_while (λ (due : ℕ × ℕ). nat_le due.0 now) (keys_of queue.waiting))

abbrev pub counted : ℕ × ℕ → ℕ → Queue → Queue
counted due times queue = record queue { waiting = set_value (is_at (due_cmp due)) queue.waiting times }

-- how often it was named, with this time
abbrev pub times_after : ℕ × ℕ → Queue → Option ℕ
times_after due queue = option_map (λ times. min (times + 1) 255) (lookup (is_at (due_cmp due)) queue.waiting)

abbrev pub counted_at : Option ℕ → ℕ × ℕ → Queue → Queue
counted_at None due queue = queue
counted_at (Some times) due queue = counted due times queue

abbrev pub put_off : Option ℕ → ℕ → ℕ × ℕ → Queue → Queue
put_off None now due queue = queue
put_off (Some times) now due queue = if nat_lt times 10 then queue else put due.1 (min (now + 10) 0xFFFF_FFFF) queue

-- One is named again: the tenth time it is put off by ten seconds.
abbrev pub passed : ℕ → Queue → ℕ × ℕ → Queue
passed now queue due = put_off (times_after due queue) now due (counted_at (times_after due queue) due queue)

abbrev pub all_passed : ℕ → Queue → List (ℕ × ℕ) → Queue
all_passed now queue dues = fold (passed now) queue dues

-- these are put among the ids
abbrev pub all_named : List ℕ → List (ℕ × ℕ) → List ℕ
all_named ids dues = fold (λ ids due. insert_key nat_cmp ids due.1) ids dues
