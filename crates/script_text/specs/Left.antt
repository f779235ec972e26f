-- What is done with a state, one act after another (own).
use Rattle.std.specs.Prelude.{List, [], ◌++◌}

-- what is left of the state, what came to nodes, and what was printed, the oldest first
pub record Left (State Input Print : Type 0) : Type 0 where
  pub next : State
  pub inputs : List Input
  pub prints : List Print

-- nothing is done
abbrev pub rests : {State Input Print : Type 0} → State → Left State Input Print
rests state = record { next = state; inputs = []; prints = [] }

-- what was done first, and then this
abbrev pub followed_by : {State Input Print : Type 0} → Left State Input Print → Left State Input Print → Left State Input Print
followed_by first last = record { next = last.next; inputs = first.inputs ++ last.inputs; prints = first.prints ++ last.prints }

-- this is printed, and then this is done
abbrev pub in_front : {State Input Print : Type 0} → List Print → Left State Input Print → Left State Input Print
in_front prints last = record { next = last.next; inputs = last.inputs; prints = prints ++ last.prints }
