-- The frames that wait to be written (own).
use Rattle.std.specs.Prelude.{ℕ, ◌==◌, Bool, false, Option, Some, None}
use Rattle.std.specs.Option.{option_map_or}
use Rattle.connection_parts.specs.declared.frame.Frame.{Frame}

abbrev pub is_numbered : Option ℕ → ℕ → Bool
is_numbered attempt sequence = option_map_or (λ number. number == sequence) attempt false

-- whether a frame is the deliver_sm of the attempt with this sequence_number
abbrev pub is_of : ℕ → Frame → Bool
is_of sequence frame = is_numbered frame.attempt sequence

-- the attempt whose deliver_sm is a frame, if there is a frame and it is one
abbrev pub attempt_of : Option Frame → Option ℕ
attempt_of None = None
attempt_of (Some frame) = frame.attempt
