-- What waits to be written on the connection of a session, and what is being written (own).
use Rattle.std.specs.Prelude.{ℕ, ◌==◌, ◌&&◌, Bool, Option, filter, not, if◌then◌else◌}
use Rattle.std.specs.List.{list_any, slice_get}
use Rattle.connection_parts.specs.declared.frame.Frame.{Frame}
use Rattle.connection_parts.specs.declared.outbox.Withdrawal.{Withdrawal}
use Rattle.connection_parts.specs.declared.outbox.Withdrawal.TheVariants.{Over, UnderWay, Withdrawn}
use Rattle.connection_parts.specs.FrameQueues.{FrameQueue}
use Rattle.connection_parts.specs.FrameQueues as queues
use Rattle.connection_parts.specs.Frames.{attempt_of, is_numbered, is_of}

pub record Outbox : Type 0 where
  -- that of the session
  pub number : ℕ
  pub frames : FrameQueue Frame
  -- the sequence_number of the deliver_sm of an attempt that is being written
  pub in_hand : Option ℕ

-- a frame of another session is not put
abbrev pub can_put : Outbox → Frame → Bool
can_put outbox frame = (frame.number == outbox.number) && queues.can_put outbox.frames

abbrev pub after_put : Outbox → Frame → Outbox
after_put outbox frame =
    if frame.number == outbox.number then record outbox { frames = queues.after_put outbox.frames frame } else outbox

abbrev pub waits_for : FrameQueue Frame → ℕ → Bool
waits_for queue sequence = list_any (is_of sequence) queue.frames

abbrev pub frames_without : FrameQueue Frame → ℕ → FrameQueue Frame
frames_without queue sequence = record queue { frames = filter (λ frame. not (is_of sequence frame)) queue.frames }

-- the oldest is taken, and is being written
abbrev pub after_take : Outbox → Outbox
after_take outbox =
    record outbox { frames = queues.after_take outbox.frames; in_hand = attempt_of (slice_get outbox.frames.frames 0) }

abbrev pub withdrawal : Outbox → ℕ → Withdrawal
withdrawal outbox sequence =
    if waits_for outbox.frames sequence then Withdrawn else if is_numbered outbox.in_hand sequence then UnderWay else Over

-- it waits no more
abbrev pub without : Outbox → ℕ → Outbox
without outbox sequence = record outbox { frames = frames_without outbox.frames sequence }
