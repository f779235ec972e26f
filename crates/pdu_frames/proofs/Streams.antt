-- The laws of frames, by recursion on the frames of a stream and on calls.
use Rattle.std.proofs.Common.{◌≡◌, ℕ, false, zero, suc, nat_le, ◌≤◌, ◌⊎◌, inl, inr, List, [], ◌∷◌, ◌++◌, length, drop, refl, sym, ap, ◌∙◌}
use Rattle.std.proofs.Common.{subst, arith, append_assoc}
use Rattle.std.proofs.lemmas.List.{append-nil, length-drop, take-append-drop}
use Rattle.std.proofs.lemmas.Bool.{cases_Bool, and_parts, leb-true}
use Rattle.pdu_frames.specs.Frames.{command_length, is_pdu_length, IsPart, HasWrongLength, AreFrames, begins_with_frame, cut, cut_within}
use Rattle.pdu_frames.specs.Calls.{Call, Run, taken_in, given_out}
use Rattle.pdu_frames.specs.Calls.Call.{TakesIn, GivesOut}
use Rattle.pdu_frames.specs.Laws.{StreamHasFrames, StreamsAreCut, FramesAreOne, FirstFramesAreGiven, AllFramesAreGiven}
use Rattle.pdu_frames.proofs.Fronts.{no_frame, one_frame, front_cases, frame_begins, whole_front, within_limits}

pub frames_one : FramesAreOne
frames_one stream [] [] rest left a b = (refl, sym a.0 ∙ b.0)
frames_one stream [] (other ∷ others) rest left a b = absurd (no_frame other b.1.0 rest (sym a.0 ∙ b.1.1) b.0 a.1)
frames_one stream (frame ∷ frames) [] rest left a b = absurd (no_frame frame a.1.0 left (sym b.0 ∙ a.1.1) a.0 b.1)
frames_one stream (frame ∷ frames) (other ∷ others) rest left a b =
    let one = one_frame frame other a.1.0 b.1.0 a.0 b.0 (sym a.1.1 ∙ b.1.1) in
    let more = frames_one b.1.0 frames others rest left (subst (λ s. AreFrames s frames rest) one.1 a.1.2) b.1.2 in
    (ap (λ f. f ∷ frames) one.0 ∙ ap (λ fs. other ∷ fs) more.0, more.1)

-- no frame stands at the front if none begins there
no_front : (stream : List ℕ) → begins_with_frame stream ≡ false → IsPart stream ⊎ HasWrongLength stream
no_front stream none =
    elim (front_cases stream) [
      | inl end ↦ end
      | inr front ↦ absurd (let begins = frame_begins front.0 front.1 front.2 in let same = ap (λ s. begins_with_frame s) front.3 in cc)
    ]

-- the cut of a stream of so many octets at most
cut_are : (most : ℕ) (stream : List ℕ) → length stream ≤ most → AreFrames stream (cut_within most stream).frames (cut_within most stream).rest
unfolding cut_within
cut_are zero stream within = (refl, inl (inl (omega arith)))
cut_are (suc most) stream within =
    elim (cases_Bool (begins_with_frame stream)) [
      | inr none ↦ rw none (refl, no_front stream none)
      | inl begins ↦
          let both = and_parts (is_pdu_length (command_length stream)) (nat_le (command_length stream) (length stream)) begins in
          let come = leb-true (command_length stream) (length stream) both.1 in
          let fewer : length (drop (command_length stream) stream) ≤ most =
          omega (arith, within_limits (command_length stream) both.0, length-drop (command_length stream) stream) in
          let more = cut_are most (drop (command_length stream) stream) fewer in
          rw begins (whole_front stream both.0 come, (drop (command_length stream) stream, sym (take-append-drop (command_length stream) stream), more))
    ]

pub streams_cut : StreamsAreCut
streams_cut stream = cut_are (length stream) stream (omega arith)

pub stream_frames : StreamHasFrames
stream_frames stream = ((cut stream).frames, (cut stream).rest, streams_cut stream)

-- The same of calls on a Framer that holds some octets already.
first_given : (calls : List Call) (old held more rest : List ℕ) (frames : List (List ℕ)) → Run old calls held →
    AreFrames (old ++ (taken_in calls ++ more)) frames rest
    → (further : List (List ℕ)) × (frames ≡ given_out calls ++ further) × AreFrames (held ++ more) further rest
first_given [] old held more rest frames run are = (frames, refl, subst (λ s. AreFrames (s ++ more) frames rest) (sym run) are)
first_given (TakesIn octets ∷ calls) old held more rest frames run are =
    let joined : old ++ ((octets ++ taken_in calls) ++ more) ≡ run.0 ++ (taken_in calls ++ more) =
    rw run.1 (simp append_assoc) in
    first_given calls run.0 held more rest frames run.2 (subst (λ s. AreFrames s frames rest) joined are)
first_given (GivesOut frame ∷ calls) old held more rest [] run are =
    absurd (no_frame frame (taken_in calls ++ more) rest (sym are.0 ∙ ap (λ s. s ++ (taken_in calls ++ more)) run.1.1) run.1.0 are.1)
first_given (GivesOut frame ∷ calls) old held more rest (other ∷ frames) run are =
    let one = one_frame frame other (taken_in calls ++ more) are.1.0 run.1.0 are.0 (ap (λ s. s ++ (taken_in calls ++ more)) (sym run.1.1) ∙ are.1.1) in
    let behind : are.1.0 ≡ run.0 ++ (taken_in calls ++ more) = rw run.1.2 (sym one.1) in
    let later = first_given calls run.0 held more rest frames run.2 (subst (λ s. AreFrames s frames rest) behind are.1.2) in
    (later.0, ap (λ f. f ∷ frames) (sym one.0) ∙ ap (λ fs. frame ∷ fs) later.1, later.2)

pub first_frames : FirstFramesAreGiven
first_frames calls held more rest frames run are = first_given calls [] held more rest frames run are

all_given : (calls : List Call) (old held : List ℕ) → Run old calls held → IsPart held ⊎ HasWrongLength held →
    AreFrames (old ++ taken_in calls) (given_out calls) held
all_given [] old held run end = (append-nil old ∙ sym run, end)
all_given (TakesIn octets ∷ calls) old held run end =
    let joined : run.0 ++ taken_in calls ≡ old ++ (octets ++ taken_in calls) = rw run.1 (append_assoc old octets (taken_in calls)) in
    subst (λ s. AreFrames s (given_out calls) held) joined (all_given calls run.0 held run.2 end)
all_given (GivesOut frame ∷ calls) old held run end =
    (run.1.0, (taken_in calls, ap (λ s. s ++ taken_in calls) run.1.1, subst (λ s. AreFrames (s ++ taken_in calls) (given_out calls) held) run.1.2 (all_given calls run.0 held run.2 end)))

pub all_frames : AllFramesAreGiven
all_frames calls held run end = all_given calls [] held run end
