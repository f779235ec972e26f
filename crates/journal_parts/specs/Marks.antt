-- Which entries have a slip (own).
use Rattle.std.specs.Prelude.{◌≡◌, ℕ, zero, suc, ◌+◌, ◌≤◌, Bool, true, List, [], ◌∷◌, length, slice_set}
use Rattle.mc_model.specs.synod.Lists.{In}
use Rattle.journal_parts.specs.Slips.{Seated, Slipped}

-- ---- what is asked

abbrev pub slips_in : List Seated → ℕ
slips_in [] = 0
slips_in (seat ∷ later) = length seat.slips + slips_in later

-- a slip of a seat has this number
pub record HasSlip (number : ℕ) (seats : List Seated) : Type 0 where
  pub seat : Seated
  pub slip : Slipped
  pub among : In seat seats
  pub one : In slip seat.slips
  pub is : slip.number ≡ number

-- There are so many slips, and each number from 1 to that is the number of one.
pub record EachOnce (count : ℕ) (seats : List Seated) : Type 0 where
  pub many : slips_in seats ≡ count
  pub each : (number : ℕ) → 1 ≤ number → number ≤ count → HasSlip number seats

-- ---- a mark for each number, from 1

-- and how many there can be
pub record Marked : Type 0 where
  pub marks : List Bool
  pub most : ℕ

abbrev pub mark_at : ℕ → List Bool → List Bool
mark_at zero marks = marks
mark_at (suc place) marks = slice_set marks place true

abbrev pub marked_by : List Slipped → List Bool → List Bool
marked_by [] marks = marks
marked_by (slip ∷ later) marks = marked_by later (mark_at slip.number marks)

abbrev pub marked_in : List Seated → List Bool → List Bool
marked_in [] marks = marks
marked_in (seat ∷ later) marks = marked_in later (marked_by seat.slips marks)
