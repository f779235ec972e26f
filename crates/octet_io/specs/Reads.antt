-- What came of reads (own).
use Rattle.std.specs.Prelude.{◌≡◌, ◌⊎◌, ℕ, ◌+◌, List, [], length, Option, refl}
use Rattle.std.specs.Coded.{Coded, code_by, coded×, coded_ℕ}
use Rattle.std.specs.Io.KnownBytes.{Consumes, IsAtEnd}

-- a reader; how many reads of it were made, how many of them failed, and how many told its end; and how many octets the last one gave
pub record Reads (R : Type 0) : Type 0 where
  pub reader : R
  pub reads : ℕ
  pub failures : ℕ
  pub ends : ℕ
  pub came : ℕ

-- it is stored as the tuple of its fields
abbrev pub reads_code : {R : Type 0} → Coded R → Coded (Reads R)
reads_code {R} code =
    code_by
    (R × (ℕ × (ℕ × (ℕ × ℕ))))
    (coded× code (coded× coded_ℕ (coded× coded_ℕ (coded× coded_ℕ coded_ℕ))))
    (λ r. (r.reader, (r.reads, (r.failures, (r.ends, r.came)))))
    (λ p. record { reader = p.0; reads = p.1.0; failures = p.1.1.0; ends = p.1.1.1.0; came = p.1.1.1.1 })
    (λ _. refl)

-- a reader of which no read was made
abbrev pub unread : {R : Type 0} → R → Reads R
unread reader = record { reader = reader; reads = 0; failures = 0; ends = 0; came = 0 }

-- no more reads than these are made: 2^40
abbrev pub most_reads : ℕ
most_reads = 1099511627776

module _ {R : Type 0} where
  -- no read failed, and none told the end
  pub record GoesOn (old new : Reads R) : Type 0 where
    pub failures : new.failures ≡ old.failures
    pub ends : new.ends ≡ old.ends

  -- no read failed, and one told the end
  pub record Ends (old new : Reads R) : Type 0 where
    pub failures : new.failures ≡ old.failures
    pub ends : new.ends ≡ old.ends + 1

  -- No read told the end, and one failed; or none failed, and all were made.
  pub record Stops (old new : Reads R) : Type 0 where
    pub failures : (new.failures ≡ old.failures + 1) ⊎ ((new.failures ≡ old.failures) × (new.reads ≡ most_reads))
    pub ends : new.ends ≡ old.ends

-- one read, of a reader that may tell what it has left
module _ {R : Type 0} (remaining : R → Option (List ℕ)) where
  -- it gave these octets; none, if it was interrupted
  pub record Gives (old new : Reads R) (octets : List ℕ) : Type 0 where
    pub consumed : Consumes (remaining old.reader) (remaining new.reader) octets
    pub counted : new.reads ≡ old.reads + 1
    pub came : new.came ≡ length octets
    pub goes_on : GoesOn old new

  -- it told the end
  pub record TellsEnd (old new : Reads R) : Type 0 where
    pub consumed : Consumes (remaining old.reader) (remaining new.reader) []
    pub at_end : IsAtEnd (remaining new.reader)
    pub counted : new.reads ≡ old.reads + 1
    pub came : new.came ≡ 0
    pub ends : Ends old new

  -- it failed
  pub record Fails (old new : Reads R) : Type 0 where
    pub consumed : Consumes (remaining old.reader) (remaining new.reader) []
    pub counted : new.reads ≡ old.reads + 1
    pub came : new.came ≡ 0
    pub failures : new.failures ≡ old.failures + 1
    pub ends : new.ends ≡ old.ends
