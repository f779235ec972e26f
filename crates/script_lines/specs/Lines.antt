-- The lines of a script, and what stands at the front of a part of them.
use Rattle.std.specs.Prelude.{◌≡◌, ◌≢◌, ℕ, ◌+◌, ◌<◌, ◌≤◌, ◌==◌, if◌then◌else◌, List, [], ◌∷◌, ◌++◌, length, take, drop, slice_get, Some, All}
pub use Rattle.std.specs.List.{onto_first}

-- the lines of a text, each ended by a line feed, which the last may lack
abbrev pub lines_of : List ℕ → List (List ℕ)
lines_of [] = []
lines_of (octet ∷ octets) = if octet == 10 then [] ∷ lines_of octets else onto_first octet (lines_of octets)

-- no octet is a line feed
abbrev pub IsOneLine : List ℕ → Type 0
IsOneLine octets = All (λ octet. octet ≢ 10) octets

-- what is held is the part from start to end of 20,001 octets
pub record HoldsPart (octets : List ℕ) (start end : ℕ) : Type 0 where
  pub room : length octets ≡ 20001
  pub order : start ≤ end
  pub within : end ≤ length octets

-- the octets begin with a line of so many octets and its line feed
pub record BeginsWithLine (count : ℕ) (octets : List ℕ) : Type 0 where
  pub line : IsOneLine (take count octets)
  pub feed : slice_get octets count ≡ Some 10

-- so many octets are all there is, and no line feed is among them
pub record IsLastLine (count : ℕ) (octets : List ℕ) : Type 0 where
  pub all : length octets ≡ count
  pub some : 1 ≤ count
  pub line : IsOneLine octets

-- the first line has more than 20,000 octets
pub record BeginsTooLong (octets : List ℕ) : Type 0 where
  pub many : length octets ≡ 20001
  pub line : IsOneLine octets

-- no line is found in this without more
pub record NeedsMore (octets : List ℕ) : Type 0 where
  pub short : length octets ≤ 20000
  pub line : IsOneLine octets

-- A text's lines, from the left: none of an empty text, one of octets without a line feed, and one before the others at a line feed.
pub record LinesAreRead : Type 0 where
  pub none : lines_of [] ≡ []
  pub last : (line : List ℕ) → line ≢ [] → IsOneLine line → lines_of line ≡ line ∷ []
  pub next : (line rest : List ℕ) → IsOneLine line → lines_of (line ++ 10 ∷ rest) ≡ line ∷ lines_of rest
  -- the same where a whole line is found at the front, whatever follows
  pub begins : (count : ℕ) (octets more : List ℕ) → BeginsWithLine count octets →
      lines_of (octets ++ more) ≡ take count octets ∷ lines_of (drop (count + 1) octets ++ more)
  -- where more octets than a line may have stand at the front, the first line is too long, whatever follows
  pub too_long : (octets more : List ℕ) → BeginsTooLong octets →
      (line : List ℕ) × (lines : List (List ℕ)) × (lines_of (octets ++ more) ≡ line ∷ lines) × (20000 < length line)
