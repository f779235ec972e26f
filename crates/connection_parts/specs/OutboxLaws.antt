-- What is never taken out of an outbox (own).
use Rattle.std.specs.Prelude.{◌≡◌, ℕ, Bool, false, List, [], ◌∷◌, ◌++◌, Some, None}
use Rattle.std.specs.List.{list_any, slice_get}
use Rattle.connection_parts.specs.declared.frame.Frame.{Frame}
use Rattle.connection_parts.specs.FrameQueues.{cut, shut}
use Rattle.connection_parts.specs.Frames.{is_of}
use Rattle.connection_parts.specs.Outboxes.{Outbox, after_put, after_take, without}

-- a call that changes an outbox
pub data Call : Type 0 where
  Put : Frame → Call
  Take : Call
  Written : Call
  TakeBack : ℕ → Call
  Shut : Call
  Cut : Call

-- that of the session of a number, in which nothing waits
abbrev pub empty : ℕ → Outbox
empty number = record { number = number; frames = record { frames = []; is_shut = false }; in_hand = None }

abbrev pub after : Outbox → Call → Outbox
after outbox (Put frame) = after_put outbox frame
after outbox Take = after_take outbox
after outbox Written = record outbox { in_hand = None }
after outbox (TakeBack sequence) = without outbox sequence
after outbox Shut = record outbox { frames = shut outbox.frames }
after outbox Cut = record outbox { frames = cut outbox.frames }

-- the outbox of the session of a number after calls, the newest first
abbrev pub after_all : ℕ → List Call → Outbox
after_all number [] = empty number
after_all number (call ∷ before) = after (after_all number before) call

-- whether a call puts the deliver_sm of an attempt with this sequence_number
abbrev pub puts : ℕ → Call → Bool
puts sequence (Put frame) = is_of sequence frame
puts sequence _ = false

-- among these calls the attempt with this sequence_number was taken back, and none was put with it since
pub record IsTakenBack (calls : List Call) (sequence : ℕ) : Type 0 where
  pub before : List Call
  pub since : List Call
  pub calls_are : calls ≡ since ++ TakeBack sequence ∷ before
  pub is_not_put : list_any (puts sequence) since ≡ false

-- After whatever calls the frame that `take` gives next is not its deliver_sm.
abbrev pub WhatWasTakenBackIsNeverTaken : Type 0
WhatWasTakenBackIsNeverTaken =
    (number : ℕ) (calls : List Call) (sequence : ℕ) (frame : Frame) → IsTakenBack calls sequence →
    slice_get (after_all number calls).frames.frames 0 ≡ Some frame → is_of sequence frame ≡ false

-- After whatever calls the frame that `take` gives next is one of its session.
abbrev pub NoFrameOfAnotherSessionIsTaken : Type 0
NoFrameOfAnotherSessionIsTaken =
    (number : ℕ) (calls : List Call) (frame : Frame) → slice_get (after_all number calls).frames.frames 0 ≡ Some frame → frame.number ≡ number
