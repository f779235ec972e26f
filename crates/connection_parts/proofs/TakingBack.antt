-- What was taken back from an outbox is never taken out of it.
use Rattle.std.proofs.Common.{◌≡◌, ℕ, Bool, true, false, cond, List, [], ◌∷◌, ◌++◌, Some, refl, sym, subst, filter, not}
use Rattle.std.specs.Prelude.{◌==◌}
use Rattle.std.specs.List.{list_any, slice_get}
use Rattle.std.proofs.lemmas.Bool.{or_from, or_parts}
use Rattle.connection_parts.specs.declared.frame.Frame.{Frame}
use Rattle.connection_parts.specs.FrameQueues.{after_put, can_put}
use Rattle.connection_parts.specs.Frames.{is_of}
use Rattle.connection_parts.specs.Outboxes.{Outbox}
use Rattle.connection_parts.specs.OutboxLaws.{Call, Put, Take, Written, TakeBack, Shut, Cut, IsTakenBack, after, after_all, puts}
use Rattle.connection_parts.proofs.Lacking.{HasNone, dropped, first_of, kept, put_if}

taken_back : (sequence : ℕ) (frames : List Frame) → HasNone (is_of sequence) (filter (λ frame. not (is_of sequence frame)) frames)
taken_back sequence [] = refl
taken_back sequence (first ∷ others) = by_test (is_of sequence first) refl (taken_back sequence others)
  where
    rest : List Frame
    rest = filter (λ frame. not (is_of sequence frame)) others

    by_test : (b : Bool) → is_of sequence first ≡ b → HasNone (is_of sequence) rest → HasNone (is_of sequence) (cond (not b) (first ∷ rest) rest)
    by_test true is none = none
    by_test false is none = or_from (is_of sequence first) (list_any (is_of sequence) rest) is none

still : (sequence : ℕ) (outbox : Outbox) (call : Call) → HasNone (is_of sequence) outbox.frames.frames → puts sequence call ≡ false →
    HasNone (is_of sequence) (after outbox call).frames.frames
still sequence outbox (Put frame) none other = by_own (frame.number == outbox.number)
  where
    by_room : (b : Bool) → HasNone (is_of sequence) (cond b (outbox.frames.frames ++ frame ∷ []) outbox.frames.frames) →
        HasNone (is_of sequence) (cond b (record outbox.frames { frames = outbox.frames.frames ++ frame ∷ [] }) outbox.frames).frames
    by_room true is = is
    by_room false is = is

    by_own : (b : Bool) →
        HasNone (is_of sequence) (cond b (record outbox { frames = after_put outbox.frames frame }) outbox).frames.frames
    by_own true = by_room (can_put outbox.frames) (put_if (is_of sequence) (can_put outbox.frames) outbox.frames.frames frame none other)
    by_own false = none
still sequence outbox Take none other = dropped (is_of sequence) outbox.frames.frames none
still sequence outbox Written none other = none
still sequence outbox (TakeBack number) none other = kept (is_of sequence) (λ frame. not (is_of number frame)) outbox.frames.frames none
still sequence outbox Shut none other = none
still sequence outbox Cut none other = refl

since_then : (number sequence : ℕ) (before since : List Call) → list_any (puts sequence) since ≡ false →
    HasNone (is_of sequence) (after_all number (since ++ TakeBack sequence ∷ before)).frames.frames
since_then number sequence before [] none = taken_back sequence (after_all number before).frames.frames
since_then number sequence before (call ∷ older) none =
    let both = or_parts (puts sequence call) (list_any (puts sequence) older) none in
    still sequence (after_all number (older ++ TakeBack sequence ∷ before)) call (since_then number sequence before older both.1) both.0

pub never_taken : (number : ℕ) (calls : List Call) (sequence : ℕ) (frame : Frame) → IsTakenBack calls sequence →
    slice_get (after_all number calls).frames.frames 0 ≡ Some frame → is_of sequence frame ≡ false
never_taken number calls sequence frame is first =
    first_of (is_of sequence) (after_all number calls).frames.frames frame
    (subst (λ (cs : List Call). HasNone (is_of sequence) (after_all number cs).frames.frames) (sym is.calls_are)
    (since_then number sequence is.before is.since is.is_not_put))
    first
