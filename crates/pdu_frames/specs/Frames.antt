-- A stream of octets falls into frames: the octets of one PDU each, whatever its body.
use Rattle.std.specs.Prelude.{◌≡◌, ℕ, zero, suc, ◌-◌, ◌<◌, ◌≤◌, ◌⊎◌, ◌&&◌, Bool, false, IsTrue, nat_le, not, if◌then◌else◌, List, [], ◌∷◌, ◌++◌, length, take}
use Rattle.std.specs.Prelude.{drop}
use Rattle.pdu_fields.specs.Grammar.{word_at}

-- command_length, in the first four octets of a PDU, counts the whole PDU, itself included (SMPP 3.4, 3.2 and 5.1.1).
abbrev pub command_length : List ℕ → ℕ
command_length octets = word_at 0 octets

-- whether a PDU may have so many octets: at least the 16 of its header (SMPP 3.4, 3.2), and at most 8,192 (own)
abbrev pub is_pdu_length : ℕ → Bool
is_pdu_length count = nat_le 16 count && nat_le count 8192

-- one whole PDU
pub record IsFrame (octets : List ℕ) : Type 0 where
  pub counted : command_length octets ≡ length octets
  pub allowed : IsTrue (is_pdu_length (length octets))

-- The command_length has come, and no PDU has as many octets as it says.
pub record HasWrongLength (octets : List ℕ) : Type 0 where
  pub come : 4 ≤ length octets
  pub wrong : is_pdu_length (command_length octets) ≡ false

-- no frame yet, and nothing wrong: fewer octets than command_length has, or than it says
abbrev pub IsPart : List ℕ → Type 0
IsPart octets = (length octets < 4) ⊎ (IsTrue (is_pdu_length (command_length octets)) × (length octets < command_length octets))

-- The frames of a stream, in their order, and the octets behind them: no frame yet, or a wrong length, behind which there
-- are no more frames.
abbrev pub AreFrames : List ℕ → List (List ℕ) → List ℕ → Type 0
AreFrames stream [] rest = (stream ≡ rest) × (IsPart rest ⊎ HasWrongLength rest)
AreFrames stream (frame ∷ frames) rest = IsFrame frame × ((behind : List ℕ) × (stream ≡ frame ++ behind) × AreFrames behind frames rest)

-- where the frame at the front of octets ends, as far as they tell: its command_length ends behind four octets, and that is
-- all there is if it is wrong
abbrev pub front_end : List ℕ → ℕ
front_end octets = if nat_le 4 (length octets) && is_pdu_length (command_length octets) then command_length octets else 4

-- of one frame alone: no octets stand behind its end
abbrev pub IsOfOneFrame : List ℕ → Type 0
IsOfOneFrame octets = length octets ≤ front_end octets

-- how many octets are missing: to the end of command_length, and once that has come to the end of the frame
abbrev pub wanted_of : List ℕ → ℕ
wanted_of octets = front_end octets - length octets

-- ---- the frames of a stream, computed

-- whether a whole frame stands at the front of octets
abbrev pub begins_with_frame : List ℕ → Bool
begins_with_frame octets = is_pdu_length (command_length octets) && nat_le (command_length octets) (length octets)

-- whether a wrong length stands there
abbrev pub begins_wrong : List ℕ → Bool
begins_wrong octets = nat_le 4 (length octets) && not (is_pdu_length (command_length octets))

-- a stream that is cut: its frames, and the octets behind them
pub record Cut : Type 0 where
  pub frames : List (List ℕ)
  pub rest : List ℕ

-- a frame in front of what is cut
abbrev pub in_front_of : List ℕ → Cut → Cut
in_front_of frame others = record { frames = frame ∷ others.frames; rest = others.rest }

-- Frame after frame is cut off the front, at most so many.
unfoldable pub cut_within : ℕ → List ℕ → Cut
cut_within zero stream = record { frames = []; rest = stream }
cut_within (suc most) stream =
    if begins_with_frame stream then in_front_of (take (command_length stream) stream) (cut_within most (drop (command_length stream) stream))
    else record { frames = []; rest = stream }

-- No stream has more frames than octets.
abbrev pub cut : List ℕ → Cut
cut stream = cut_within (length stream) stream
