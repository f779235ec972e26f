-- What is found at the front of what is held of a script, and what was read for it.
use Rattle.std.specs.Prelude.{◌≡◌, ◌⊎◌, ℕ, ◌-◌, ◌<◌, ◌≤◌, List, [], length, take, Bool, true, false, MatchBool, Option}
use Rattle.std.specs.Io.KnownBytes.{IsAtEnd}
use Rattle.octet_io.specs.Reads.{Reads, Ends, GoesOn, most_reads}
use Rattle.script_lines.specs.Lines.{BeginsTooLong, BeginsWithLine, IsLastLine, NeedsMore}
use Rattle.script_lines.specs.declared.buffer.Found.{Found}
use Rattle.script_lines.specs.declared.buffer.Found.TheVariants as found

-- what is found at the front of what is held
abbrev pub IsFound : Found → List ℕ → Type 0
IsFound (found.Line count) octets = (count ≤ 20000) × BeginsWithLine count octets
IsFound (found.Last count) octets = (count ≤ 20000) × IsLastLine count octets
IsFound found.TooLong octets = BeginsTooLong octets
IsFound found.End octets = octets ≡ []

-- whether it is found only where the reader is at its end
abbrev pub is_at_end : Found → Bool
is_at_end (found.Line count) = false
is_at_end (found.Last count) = true
is_at_end found.TooLong = false
is_at_end found.End = true

-- No read failed. If what is found takes the reader's end, one told it, and nothing is left; else none told it.
abbrev pub Reaches : {R : Type 0} → (R → Option (List ℕ)) → Found → Reads R → Reads R → Type 0
Reaches remaining found old new = MatchBool (is_at_end found) (Ends old new × IsAtEnd (remaining new.reader)) (GoesOn old new)

-- what was held before the last read, of what is held now
abbrev pub held_before : {R : Type 0} → List ℕ → Reads R → List ℕ
held_before held new = take (length held - new.came) held

-- Reads were made; what was held before the last one needed more.
pub record ReadsOn {R : Type 0} (now : List ℕ) (old new : Reads R) : Type 0 where
  pub needed : NeedsMore (held_before now new)
  pub counted : old.reads < new.reads
  pub most : new.reads ≤ most_reads

-- Nothing was read, or no read was made that was not needed.
abbrev pub ReadsAsNeeded : {R : Type 0} → List ℕ → List ℕ → Reads R → Reads R → Type 0
ReadsAsNeeded held now old new = ((now ≡ held) × (new ≡ old)) ⊎ ReadsOn now old new
