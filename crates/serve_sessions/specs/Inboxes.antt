-- What came on a connection and waits to be served (own).
use Rattle.std.specs.Prelude.{ℕ, Option, Some, None}
use Rattle.std.specs.List.{slice_get}
use Rattle.std.specs.Global.{Vec}
use Rattle.connection_parts.specs.FrameQueues.{FrameQueue}
use Rattle.connection_parts.specs.FrameQueues as queues
use Rattle.serve_sessions.specs.declared.inbox.Next.{Next}
use Rattle.serve_sessions.specs.declared.inbox.Next.TheVariants as nexts
use Rattle.serve_sessions.specs.declared.notice.Reason.{Reason}

pub record Inbox : Type 0 where
  -- PDUs, the oldest first
  pub frames : FrameQueue (Vec ℕ)
  -- why nothing more comes, once that is so
  pub end : Option Reason

-- nothing more comes: the first reason stays
abbrev pub ended_by : Option Reason → Reason → Option Reason
ended_by None reason = Some reason
ended_by (Some first) reason = Some first

abbrev pub ended : Inbox → Reason → Inbox
ended inbox reason = record { frames = queues.shut inbox.frames; end = ended_by inbox.end reason }

-- nobody serves any more
abbrev pub cut : Inbox → Inbox
cut inbox = record inbox { frames = queues.cut inbox.frames }

-- what comes next: what came before the end is served before it
abbrev pub end_of : Option Reason → Next
end_of None = nexts.Rest
end_of (Some reason) = nexts.End reason

abbrev pub next_of : Option (Vec ℕ) → Option Reason → Next
next_of None end = end_of end
next_of (Some frame) end = nexts.Frame frame

abbrev pub next : Inbox → Next
next inbox = next_of (slice_get inbox.frames.frames 0) inbox.end

abbrev pub after_next : Inbox → Inbox
after_next inbox = record inbox { frames = queues.after_take inbox.frames }
