-- The ids that wait for a worker (own).
use Rattle.std.specs.Prelude.{ℕ, ◌==◌, ◌&&◌, ◌||◌, ◌++◌, ◌∷◌, [], Bool, true, List, length, nat_lt, not, if◌then◌else◌}
use Rattle.std.specs.List.{list_any}

-- the oldest first, with room for so many
pub record Queue : Type 0 where
  pub ids : List ℕ
  pub room : ℕ
  pub is_shut : Bool

-- whether an id waits
abbrev pub has : Queue → ℕ → Bool
has queue id = list_any (λ other. other == id) queue.ids

-- whether an id can wait: it does already, or there is room; and the queue is not shut
abbrev pub can_wait : Queue → ℕ → Bool
can_wait queue id = not queue.is_shut && (has queue id || nat_lt (length queue.ids) queue.room)

abbrev pub with_last : Queue → ℕ → Queue
with_last queue id = record { ids = queue.ids ++ id ∷ []; room = queue.room; is_shut = queue.is_shut }

-- an id that can wait is put at the end, unless it waits already
abbrev pub after_put : Queue → ℕ → Queue
after_put queue id = if can_wait queue id && not (has queue id) then with_last queue id else queue

-- whether who takes an id has to wait
abbrev pub is_idle : Queue → Bool
is_idle queue = (length queue.ids == 0) && not queue.is_shut

abbrev pub shut : Queue → Queue
shut queue = record { ids = queue.ids; room = queue.room; is_shut = true }
