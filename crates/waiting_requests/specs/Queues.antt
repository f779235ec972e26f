-- The requests that wait in the code (own).
use Rattle.std.specs.Prelude.{ℕ, ◌<◌, ◌≤◌, Bool, List, [], ◌∷◌, Some, filter, length, map, not}
use Rattle.std.specs.Global.{Box}
use Rattle.std.specs.Box.{box_value}
use Rattle.mc_model.specs.node.Room.{most_waiting}
use Rattle.mc_model.specs.message.Decree.{Decree}
use Rattle.node_model.specs.Answers.{still_waits}
use Rattle.node_model.specs.Kept.{Held}
use Rattle.node_model.specs.Packets.{settled_for}
use Rattle.node_model.specs.Requests.{Ascend, ticket_of}
use Rattle.node_model.specs.Ticks.{is_late}
use Rattle.waiting_requests.specs.Waiting.{Waits, held_in}

-- each ticket is lower than this one
abbrev pub IsAbove : List Held → ℕ → Type 0
IsAbove [] ticket = Unit {0}
IsAbove (first ∷ others) ticket = (ticket_of first < ticket) × IsAbove others ticket

-- their tickets ascend, and there is room for as many as may wait
pub record IsQueue (capacity : ℕ) (waits : List Waits) : Type 0 where
  pub room : most_waiting ≤ capacity
  pub few : length waits ≤ most_waiting
  pub ascend : Ascend (held_in waits)

-- those in boxes
abbrev pub boxed_in : List (Box Waits) → List Held
boxed_in boxes = held_in (map box_value boxes)

-- those that did not wait too long at a clock
abbrev pub timely : ℕ → List Held → List Held
timely clock held = filter (λ h. not (is_late clock h)) held

-- one waits no more once the chain of a message is known, by which it may be settled
abbrev pub is_answered : ℕ → ℕ → List Decree → Held → Bool
is_answered nodes id chain h = not (still_waits nodes (Some chain) id (settled_for nodes id chain h))
