-- A loop of reads, until a line is found.
use Rattle.std.proofs.Common.{◌≡◌, ℕ, ◌≤◌, List, ◌++◌, length, take, Option}
use Rattle.std.specs.Io.KnownBytes.{Consumes}
use Rattle.octet_io.specs.Reads.{Reads, GoesOn}
use Rattle.script_lines.specs.Lines.{IsOneLine}
use Rattle.script_lines.specs.Finding.{ReadsAsNeeded}

-- What came since the loop began, and how far it was searched.
pub record Progress {R : Type 0} (remaining : R → Option (List ℕ)) (held now : List ℕ) (old new : Reads R) (searched : ℕ) : Type 0 where
  pub got : List ℕ
  pub consumed : Consumes (remaining old.reader) (remaining new.reader) got
  pub grew : now ≡ held ++ got
  pub goes_on : GoesOn old new
  pub needed : ReadsAsNeeded held now old new
  pub within : searched ≤ length now
  pub line : IsOneLine (take searched now)
