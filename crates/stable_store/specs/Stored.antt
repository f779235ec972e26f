-- What is stored (own).
use Rattle.std.specs.Prelude.{◌≡◌, ◌⊎◌, ℕ, ◌+◌, ◌≤◌, min, List, [], ◌∷◌, map}
use Rattle.mc_model.specs.synod.Packet.{Slot}
use Rattle.mc_model.specs.synod.Acceptor.{Records, SlotRecord, with_record}
use Rattle.synod_acceptor.specs.declared.record.Change.{Change}
use Rattle.synod_acceptor.specs.Records.{record_at}
use Rattle.synod_acceptor.specs.Votes.{Record, record_of, slot_recorded}

-- the records of two stores are the same, slot by slot
pub record AreSame (one other : Records) : Type 0 where
  pub each : (slot : Slot) → one slot ≡ other slot

-- A store as contracts see it. A disk may return what nobody wrote; of what is stored something is said only while it did not.
pub record Stored : Type 1 where
  -- 0 while the disk returned what was written
  pub doubt : ℕ
  -- unless in doubt, the store answers, and these records are stored
  pub holds : Records → Type 0
  -- unless in doubt, the store answers, and this is the last incarnation that is stored, or 0 if there is none
  pub has_started : ℕ → Type 0
  -- not in doubt, and whoever opens it after a stop at this moment may find these records
  pub may_hold : Records → Type 0
  -- the same of the last incarnation
  pub may_have_started : ℕ → Type 0
  -- how often the device failed, as far as it is counted
  pub failed : ℕ

-- the count of failures rose, as far as it goes
abbrev pub HasFailed : Stored → Stored → Type 0
HasFailed old new = min (old.failed + 1) 18446744073709551615 ≤ new.failed

-- no doubt and no failure is forgotten
pub record GoesOn (old new : Stored) : Type 0 where
  pub doubt : old.doubt ≤ new.doubt
  pub failed : old.failed ≤ new.failed

-- ---- what is stored after a call

-- the records that were stored are
abbrev pub KeepsRecords : Stored → Stored → Type 0
KeepsRecords old new = (records : Records) → old.holds records → new.holds records

-- and so is the last incarnation
abbrev pub KeepsStarted : Stored → Stored → Type 0
KeepsStarted old new = (started : ℕ) → old.has_started started → new.has_started started

pub record Stays (old new : Stored) : Type 0 where
  pub records : KeepsRecords old new
  pub started : KeepsStarted old new

-- these records with that of a change
abbrev pub changed : Change → Records → Records
changed change records = with_record records (slot_recorded change.after) (record_of change.after)

-- the record of a change stands in the place of the old one
abbrev pub Saves : Change → Stored → Stored → Type 0
Saves change old new = (records : Records) → old.holds records → new.holds (changed change records)

-- the same with those of a group of changes, in their order: of several of a slot the last counts
abbrev pub changed_all : List Change → Records → Records
changed_all [] records = records
changed_all (change ∷ more) records = changed_all more (changed change records)

-- the records of a group, in its order
abbrev pub afters : List Change → List Record
afters changes = map (λ (change : Change). change.after) changes

-- the records of a group stand in the place of the old ones
abbrev pub SavesAll : List Change → Stored → Stored → Type 0
SavesAll changes old new = (records : Records) → old.holds records → new.holds (changed_all changes records)

-- ---- what a stop at the end of a call leaves; one inside it is that of a device which fails from there on

-- whoever opens it then finds records that they might have found before
abbrev pub LeavesRecords : Stored → Stored → Type 0
LeavesRecords old new = (left : Records) → new.may_hold left → old.may_hold left

abbrev pub LeavesStarted : Stored → Stored → Type 0
LeavesStarted old new = (left : ℕ) → new.may_have_started left → old.may_have_started left

pub record Leaves (old new : Stored) : Type 0 where
  pub records : LeavesRecords old new
  pub started : LeavesStarted old new

-- the save of a change may be done, too
pub record LeavesSaved (change : Change) (old new : Stored) : Type 0 where
  pub records : (left : Records) → new.may_hold left →
      old.may_hold left ⊎ ((records : Records) → old.holds records → AreSame left (changed change records))
  pub started : LeavesStarted old new

-- the save of a group may be done, too: of all of it, or of nothing
pub record LeavesSavedAll (changes : List Change) (old new : Stored) : Type 0 where
  pub records : (left : Records) → new.may_hold left →
      old.may_hold left ⊎ ((records : Records) → old.holds records → AreSame left (changed_all changes records))
  pub started : LeavesStarted old new

-- the next incarnation may have begun
pub record LeavesNext (old new : Stored) : Type 0 where
  pub records : LeavesRecords old new
  pub started : (left : ℕ) → new.may_have_started left →
      old.may_have_started left ⊎ ((started : ℕ) → old.has_started started → left ≡ started + 1)

-- ---- a list

-- what a list of records stores: the records as they were saved, the newest first
pub record Listed : Type 0 where
  pub entries : List (Slot × SlotRecord)
  pub started : ℕ

-- nothing else is ever found in it
abbrev pub stored_in : Listed → ℕ → Stored
stored_in list failures = record {
  doubt = 0;
  holds = AreSame (record_at list.entries);
  has_started = λ started. list.started ≡ started;
  may_hold = AreSame (record_at list.entries);
  may_have_started = λ started. list.started ≡ started;
  failed = failures;
}

-- what a list stores once a change is saved
abbrev pub saved : Change → List (Slot × SlotRecord) → Records
saved change entries = changed change (record_at entries)

-- and once a group is
abbrev pub saved_all : List Change → List (Slot × SlotRecord) → Records
saved_all changes entries = changed_all changes (record_at entries)
