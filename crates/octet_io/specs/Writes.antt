-- What came of writes (own).
use Rattle.std.specs.Prelude.{◌≡◌, ◌⊎◌, ℕ, ◌+◌, ◌<◌, List, [], length, take, Option, refl}
use Rattle.std.specs.Coded.{Coded, code_by, coded×, coded_ℕ}
use Rattle.std.specs.Io.KnownBytes.{Appends}

-- a writer; how many writes to it were made, and how many of them failed
pub record Writes (W : Type 0) : Type 0 where
  pub writer : W
  pub writes : ℕ
  pub failures : ℕ

-- it is stored as the tuple of its fields
abbrev pub writes_code : {W : Type 0} → Coded W → Coded (Writes W)
writes_code {W} code =
    code_by
    (W × (ℕ × ℕ))
    (coded× code (coded× coded_ℕ coded_ℕ))
    (λ w. (w.writer, (w.writes, w.failures)))
    (λ p. record { writer = p.0; writes = p.1.0; failures = p.1.1 })
    (λ _. refl)

-- a writer to which no write was made
abbrev pub unwritten : {W : Type 0} → W → Writes W
unwritten writer = record { writer = writer; writes = 0; failures = 0 }

-- no more writes than these are made: 2^60
abbrev pub most_writes : ℕ
most_writes = 1152921504606846976

-- of a writer that may tell what it holds
module _ {W : Type 0} (contents : W → Option (List ℕ)) where
  -- one write took these octets; none, if it was interrupted
  pub record Takes (old new : Writes W) (octets : List ℕ) : Type 0 where
    pub appended : Appends (contents old.writer) (contents new.writer) octets
    pub counted : new.writes ≡ old.writes + 1
    pub failures : new.failures ≡ old.failures

  -- one write failed, or took nothing of what there was
  pub record Refuses (old new : Writes W) : Type 0 where
    pub appended : Appends (contents old.writer) (contents new.writer) []
    pub counted : new.writes ≡ old.writes + 1
    pub failures : new.failures ≡ old.failures + 1

  -- these octets went out, and no write failed
  pub record Sends (old new : Writes W) (octets : List ℕ) : Type 0 where
    pub appended : Appends (contents old.writer) (contents new.writer) octets
    pub failures : new.failures ≡ old.failures

  -- So many octets at the front of these went out, and not all; then a write failed, or all were made.
  pub record SendsFront (old new : Writes W) (octets : List ℕ) (sent : ℕ) : Type 0 where
    pub appended : Appends (contents old.writer) (contents new.writer) (take sent octets)
    pub within : sent < length octets
    pub failures : (new.failures ≡ old.failures + 1) ⊎ ((new.failures ≡ old.failures) × (new.writes ≡ most_writes))
