-- The laws of frames, for all streams and all ways to cut them.
use Rattle.std.specs.Prelude.{◌≡◌, ℕ, ◌⊎◌, List, [], ◌++◌}
use Rattle.pdu_frames.specs.Frames.{AreFrames, IsPart, HasWrongLength, cut}
use Rattle.pdu_frames.specs.Calls.{Call, Run, taken_in, given_out}

-- Each stream has frames, and no others.
abbrev pub StreamHasFrames : Type 0
StreamHasFrames = (stream : List ℕ) → (frames : List (List ℕ)) × (rest : List ℕ) × AreFrames stream frames rest

-- They are those that cutting gives.
abbrev pub StreamsAreCut : Type 0
StreamsAreCut = (stream : List ℕ) → AreFrames stream (cut stream).frames (cut stream).rest

abbrev pub FramesAreOne : Type 0
FramesAreOne = (stream : List ℕ) (frames others : List (List ℕ)) (rest left : List ℕ) → AreFrames stream frames rest → AreFrames stream others left
    → (frames ≡ others) × (rest ≡ left)

-- However the octets come, and whenever frames are given out: these are the first frames of the stream, whatever is still to
-- come, and its further frames are those of what is held and what is to come.
abbrev pub FirstFramesAreGiven : Type 0
FirstFramesAreGiven = (calls : List Call) (held more rest : List ℕ) (frames : List (List ℕ)) → Run [] calls held
    → AreFrames (taken_in calls ++ more) frames rest
    → (further : List (List ℕ)) × (frames ≡ given_out calls ++ further) × AreFrames (held ++ more) further rest

-- Once no whole frame is held, the frames that were given out are all frames of what came.
abbrev pub AllFramesAreGiven : Type 0
AllFramesAreGiven = (calls : List Call) (held : List ℕ) → Run [] calls held → IsPart held ⊎ HasWrongLength held
    → AreFrames (taken_in calls) (given_out calls) held
