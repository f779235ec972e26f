-- What the promises of a store say of a list, and that it keeps their laws (own).
use Rattle.std.specs.Prelude.{◌≡◌, ◌⊎◌, ◌+◌, ℕ, List}
use Rattle.std.proofs.Common.{sym, ◌∙◌}
use Rattle.mc_model.specs.synod.Acceptor.{Records}
use Rattle.synod_acceptor.specs.declared.record.Change.{Change}
use Rattle.synod_acceptor.specs.Records.{record_at}
use Rattle.stable_store.specs.Stored.{AreSame, LeavesNext, LeavesSaved, LeavesSavedAll, Listed, Saves, SavesAll, Stays, saved, saved_all, stored_in}

-- the same records in the same incarnation
pub record AreAlike (one other : Listed) : Type 0 where
  pub records : AreSame (record_at one.entries) (record_at other.entries)
  pub started : one.started ≡ other.started

abbrev pub SaysOfStays : Type 0
SaysOfStays = (old new : Listed) (before after : ℕ) → Stays (stored_in old before) (stored_in new after) → AreAlike new old

abbrev pub SaysOfSaves : Type 0
SaysOfSaves = (change : Change) (old new : Listed) (before after : ℕ) → Saves change (stored_in old before) (stored_in new after) →
    AreSame (record_at new.entries) (saved change old.entries)

abbrev pub SaysOfLeavesSaved : Type 0
SaysOfLeavesSaved = (change : Change) (old new : Listed) (before after : ℕ) → LeavesSaved change (stored_in old before) (stored_in new after) →
    AreSame (record_at new.entries) (record_at old.entries) ⊎ AreSame (record_at new.entries) (saved change old.entries)

abbrev pub SaysOfSavesAll : Type 0
SaysOfSavesAll = (changes : List Change) (old new : Listed) (before after : ℕ) → SavesAll changes (stored_in old before) (stored_in new after) →
    AreSame (record_at new.entries) (saved_all changes old.entries)

abbrev pub SaysOfLeavesSavedAll : Type 0
SaysOfLeavesSavedAll =
    (changes : List Change) (old new : Listed) (before after : ℕ) → LeavesSavedAll changes (stored_in old before) (stored_in new after) →
    AreSame (record_at new.entries) (record_at old.entries) ⊎ AreSame (record_at new.entries) (saved_all changes old.entries)

abbrev pub SaysOfLeavesNext : Type 0
SaysOfLeavesNext = (old new : Listed) (before after : ℕ) → LeavesNext (stored_in old before) (stored_in new after) →
    AreSame (record_at new.entries) (record_at old.entries) × ((new.started ≡ old.started) ⊎ (new.started ≡ old.started + 1))

-- ---- its laws as a store

-- nothing else may be found than what is stored
pub settled_in : (list : Listed) (records left : Records) → AreSame (record_at list.entries) records → AreSame (record_at list.entries) left →
    AreSame left records
settled_in list records left holds found = record { each = λ slot. sym (found.each slot) ∙ holds.each slot }

pub settled_started_in : (list : Listed) (started left : ℕ) → list.started ≡ started → list.started ≡ left → left ≡ started
settled_started_in list started left is found = sym found ∙ is
