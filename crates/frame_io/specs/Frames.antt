-- What comes of a frame that is read (own).
use Rattle.std.specs.Prelude.{◌≡◌, ◌≢◌, ◌<◌, ℕ, Bool, true, false, List, [], ◌++◌, length, Option, Result, Ok, Err}
use Rattle.std.specs.Io.KnownBytes.{Consumes, IsAtEnd}
use Rattle.octet_io.specs.Reads.{Ends, Gives, GoesOn, Reads, Stops}
use Rattle.pdu_frames.specs.Frames.{HasWrongLength, IsFrame, IsPart}
use Rattle.frame_io.specs.declared.fault.FrameFault.{FrameFault}
use Rattle.frame_io.specs.declared.fault.FrameFault.TheVariants as faults

-- What is held, and where a frame goes: what a Framer holds, and what a vector has and may have without memory.
pub record Held : Type 0 where
  pub octets : List ℕ
  pub into : List ℕ
  pub room : ℕ

-- by reads of a reader that may tell what it has left
module _ {R : Type 0} (remaining : R → Option (List ℕ)) where
  -- one read gave octets, which are held behind those that were
  pub record GivesMore (before after : Reads R) (old new : List ℕ) : Type 0 where
    pub octets : List ℕ
    pub gives : Gives remaining before after octets
    pub held : new ≡ old ++ octets

  -- These octets came, and are held behind those that were; no frame was given.
  pub record HasCome (before after : Reads R) (old new : Held) (octets : List ℕ) : Type 0 where
    pub consumed : Consumes (remaining before.reader) (remaining after.reader) octets
    pub held : new.octets ≡ old.octets ++ octets
    pub kept : new.into ≡ old.into

  -- The octets that were held, and those that came behind them, are one frame, which was given: nothing is held any more.
  pub record IsGiven (before after : Reads R) (old new : Held) : Type 0 where
    pub octets : List ℕ
    pub consumed : Consumes (remaining before.reader) (remaining after.reader) octets
    pub frame : IsFrame (old.octets ++ octets)
    pub given : new.into ≡ old.octets ++ octets
    pub none : new.octets ≡ []
    pub reads : GoesOn before after

  -- the input ended, and no octet is held
  pub record IsOver (before after : Reads R) (old new : Held) : Type 0 where
    pub come : HasCome before after old new []
    pub none : old.octets ≡ []
    pub at_end : IsAtEnd (remaining after.reader)
    pub reads : Ends before after

  -- A read failed, or all were made, and no frame is held whole.
  pub record IsStopped (before after : Reads R) (old new : Held) : Type 0 where
    pub octets : List ℕ
    pub come : HasCome before after old new octets
    pub part : IsPart new.octets
    pub reads : Stops before after

  -- A wrong command_length is held, and no octet behind it was read.
  pub record IsWrong (before after : Reads R) (old new : Held) : Type 0 where
    pub octets : List ℕ
    pub come : HasCome before after old new octets
    pub wrong : HasWrongLength new.octets
    pub reads : GoesOn before after

  -- the input ended, and a part of a frame is held
  pub record IsCut (before after : Reads R) (old new : Held) : Type 0 where
    pub octets : List ℕ
    pub come : HasCome before after old new octets
    pub part : IsPart new.octets
    pub some : new.octets ≢ []
    pub at_end : IsAtEnd (remaining after.reader)
    pub reads : Ends before after

  -- A frame is held whole, for which the vector has no room.
  pub record IsUnmoved (before after : Reads R) (old new : Held) : Type 0 where
    pub octets : List ℕ
    pub come : HasCome before after old new octets
    pub frame : IsFrame new.octets
    pub full : old.room < length new.octets
    pub reads : GoesOn before after

  abbrev pub IsRead : Reads R → Reads R → Held → Held → Result Bool FrameFault → Type 0
  IsRead before after old new (Ok true) = IsGiven before after old new
  IsRead before after old new (Ok false) = IsOver before after old new
  IsRead before after old new (Err faults.Read) = IsStopped before after old new
  IsRead before after old new (Err faults.Length) = IsWrong before after old new
  IsRead before after old new (Err faults.Short) = IsCut before after old new
  IsRead before after old new (Err faults.Memory) = IsUnmoved before after old new

-- ---- one step

-- why what is held is not taken, into a vector with so much room
abbrev pub IsNotTaken : List ℕ → ℕ → FrameFault → Type 0
IsNotTaken octets room faults.Read = ⊥
IsNotTaken octets room faults.Length = HasWrongLength octets
IsNotTaken octets room faults.Short = ⊥
IsNotTaken octets room faults.Memory = IsFrame octets × (room < length octets)
