-- In which line of a text a name comes (own).
use Rattle.std.specs.Prelude.{Bool, true, ◌≡◌, ◌≤◌, ◌<◌, ◌==◌, ℕ, suc, List, length, filter, take, slice_get, Some, is_some, option_and_then}
use Rattle.toml.specs.Data.{Data, get}
use Rattle.config.specs.Config.{IsDocument}
use Rattle.config_warnings.specs.declared.lines.Named.{Named}
use Rattle.config_warnings.specs.Sections.{tables_of}

-- the table at a place of a section has the name
abbrev pub has_name : Data → Named → Bool
has_name document named = is_some (option_and_then (get named.name.now) (slice_get (tables_of named.section document) named.row))

-- the octets are no TOML
abbrev pub IsNone : List ℕ → Type 0
IsNone octets = (document : Data) → IsDocument octets document → ⊥

-- the octets are TOML that has the name there
pub record Tells (octets : List ℕ) (named : Named) : Type 0 where
  pub document : Data
  pub is : IsDocument octets document
  pub has : has_name document named ≡ true

-- how many lines end in octets: the octet 10 ends a line
abbrev pub newlines : List ℕ → ℕ
newlines octets = length (filter (λ octet. octet == 10) octets)

-- the number of the line, from 1, in which an octet stands
abbrev pub line_at : List ℕ → ℕ → ℕ
line_at octets place = suc (newlines (take place octets))

-- What stands before this line does not tell the name, and with it does.
pub record IsLineOf (octets : List ℕ) (named : Named) (line : ℕ) : Type 0 where
  pub start : ℕ
  pub end : ℕ
  pub before : ¬ Tells (take start octets) named
  pub with : Tells (take end octets) named
  pub single : (place : ℕ) → start ≤ place → place < end → ¬ (slice_get octets place ≡ Some 10)
  pub number : line ≡ line_at octets start
