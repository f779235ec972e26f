-- What calls do with a Framer, seen by the octets that it holds.
use Rattle.std.specs.Prelude.{◌≡◌, ℕ, List, [], ◌∷◌, ◌++◌}
use Rattle.pdu_frames.specs.Frames.{IsFrame}

-- a call that changes what is held: some octets of a piece are taken in, or the frame that is held is given out
pub data Call : Type 0 where
  TakesIn : List ℕ → Call
  GivesOut : List ℕ → Call

-- the stream: all octets that calls took in
abbrev pub taken_in : List Call → List ℕ
taken_in [] = []
taken_in (TakesIn octets ∷ calls) = octets ++ taken_in calls
taken_in (GivesOut frame ∷ calls) = taken_in calls

-- the frames that calls gave out
abbrev pub given_out : List Call → List (List ℕ)
given_out [] = []
given_out (TakesIn octets ∷ calls) = given_out calls
given_out (GivesOut frame ∷ calls) = frame ∷ given_out calls

-- A call leads from what was held to what is held.
abbrev pub Leads : List ℕ → Call → List ℕ → Type 0
Leads old (TakesIn octets) new = new ≡ old ++ octets
Leads old (GivesOut frame) new = IsFrame frame × (old ≡ frame) × (new ≡ [])

-- Calls lead one after another from what was held to what is held.
abbrev pub Run : List ℕ → List Call → List ℕ → Type 0
Run old [] new = new ≡ old
Run old (call ∷ calls) new = (mid : List ℕ) × Leads old call mid × Run mid calls new
