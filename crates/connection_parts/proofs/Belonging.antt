-- What is taken out of an outbox is of its session.
use Rattle.std.proofs.Common.{◌≡◌, ℕ, Bool, true, false, cond, List, [], ◌∷◌, ◌++◌, Some, refl, sym, ap, subst, ◌∙◌, not, arith}
use Rattle.std.specs.Prelude.{◌==◌}
use Rattle.std.specs.List.{slice_get}
use Rattle.std.proofs.lemmas.Bool.{not-false}
use Rattle.std.proofs.lemmas.Bool.Decides.{nat_tests}
use Rattle.connection_parts.specs.declared.frame.Frame.{Frame}
use Rattle.connection_parts.specs.FrameQueues.{after_put, can_put}
use Rattle.connection_parts.specs.Frames.{is_of}
use Rattle.connection_parts.specs.Outboxes.{Outbox}
use Rattle.connection_parts.specs.OutboxLaws.{Call, Put, Take, Written, TakeBack, Shut, Cut, after, after_all}
use Rattle.connection_parts.proofs.Lacking.{HasNone, dropped, first_of, kept, put_if}

-- whether a frame is one of another session than that of a number
abbrev is_foreign : ℕ → Frame → Bool
is_foreign number frame = not (frame.number == number)

number_stays : (outbox : Outbox) (call : Call) → (after outbox call).number ≡ outbox.number
number_stays outbox (Put frame) = by_own (frame.number == outbox.number)
  where
    by_own : (b : Bool) → (cond b (record outbox { frames = after_put outbox.frames frame }) outbox).number ≡ outbox.number
    by_own true = refl
    by_own false = refl
number_stays outbox Take = refl
number_stays outbox Written = refl
number_stays outbox (TakeBack number) = refl
number_stays outbox Shut = refl
number_stays outbox Cut = refl

still : (outbox : Outbox) (call : Call) → HasNone (is_foreign outbox.number) outbox.frames.frames →
    HasNone (is_foreign outbox.number) (after outbox call).frames.frames
still outbox (Put frame) none = by_own (frame.number == outbox.number) refl
  where
    by_room : (b : Bool) → HasNone (is_foreign outbox.number) (cond b (outbox.frames.frames ++ frame ∷ []) outbox.frames.frames) →
        HasNone (is_foreign outbox.number) (cond b (record outbox.frames { frames = outbox.frames.frames ++ frame ∷ [] }) outbox.frames).frames
    by_room true is = is
    by_room false is = is

    by_own : (b : Bool) → (frame.number == outbox.number) ≡ b →
        HasNone (is_foreign outbox.number) (cond b (record outbox { frames = after_put outbox.frames frame }) outbox).frames.frames
    by_own true own =
        by_room (can_put outbox.frames) (put_if (is_foreign outbox.number) (can_put outbox.frames) outbox.frames.frames frame none (ap not own))
    by_own false own = none
still outbox Take none = dropped (is_foreign outbox.number) outbox.frames.frames none
still outbox Written none = none
still outbox (TakeBack number) none = kept (is_foreign outbox.number) (λ frame. not (is_of number frame)) outbox.frames.frames none
still outbox Shut none = none
still outbox Cut none = refl

own : (number : ℕ) (calls : List Call) →
    ((after_all number calls).number ≡ number) × HasNone (is_foreign number) (after_all number calls).frames.frames
own number [] = (refl, refl)
own number (call ∷ before) =
    let was = own number before in
    let outbox : Outbox = after_all number before in (
      number_stays outbox call ∙ was.0,
      subst (λ (n : ℕ). HasNone (is_foreign n) (after outbox call).frames.frames) was.0
          (still outbox call (subst (λ (n : ℕ). HasNone (is_foreign n) outbox.frames.frames) (sym was.0) was.1)),
    )

pub taken_is_own : (number : ℕ) (calls : List Call) (frame : Frame) → slice_get (after_all number calls).frames.frames 0 ≡ Some frame →
    frame.number ≡ number
taken_is_own number calls frame first =
    let is : (frame.number == number) ≡ true = not-false (frame.number == number)
    (first_of (is_foreign number) (after_all number calls).frames.frames frame (own number calls).1 first) in
    grind (arith, nat_tests, is)
