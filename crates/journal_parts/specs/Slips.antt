-- What the takers of steps have of them (own).
use Rattle.std.specs.Prelude.{ℕ, List}
use Rattle.journal_laws.specs.Journals.{Entry}

-- the number of an entry, how many packets had numbers before it, and the entry
pub record Slipped : Type 0 where
  pub number : ℕ
  pub before : ℕ
  pub entry : Entry

-- the slips of a seat, the oldest first, and for how many more it has room
pub record Seated : Type 0 where
  pub slips : List Slipped
  pub room : ℕ
