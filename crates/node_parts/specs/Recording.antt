-- A change that is made in what is kept of its message.
use Rattle.std.specs.Prelude.{◌≡◌, ℕ, List, Option, Some, None}
use Rattle.shelf.specs.Shelved.{value_at, with_value}
use Rattle.synod_acceptor.specs.Applied.{HasPlace, with_entry}
use Rattle.synod_acceptor.specs.Records.{entry_of}
use Rattle.synod_acceptor.specs.Votes.{slot_recorded}
use Rattle.synod_acceptor.specs.declared.record.Change.{Change}
use Rattle.synod_acceptor.specs.declared.room.RecordRoom.{RecordRoom}
use Rattle.node_parts.specs.declared.message.Message.{Message as Filed}

abbrev pub recorded_in : Filed → Change → Filed
recorded_in m change = record m { acceptor = with_entry m.acceptor (entry_of change.after) }

-- there is room for its record
abbrev pub HasRecordRoom : Filed → Change → RecordRoom → Type 0
HasRecordRoom m change room = HasPlace m.acceptor (slot_recorded change.after) room

-- ---- among the messages that are kept

-- the message in whose slot it changes the record
abbrev pub id_changed : Change → ℕ
id_changed change = (slot_recorded change.after).id

abbrev pub recorded_of : List (ℕ × Filed) → ℕ → Change → Option Filed → List (ℕ × Filed)
recorded_of entries id change None = entries
recorded_of entries id change (Some m) = with_value entries id (recorded_in m change)

abbrev pub recorded_at : List (ℕ × Filed) → ℕ → Change → List (ℕ × Filed)
recorded_at entries id change = recorded_of entries id change (value_at entries id)

-- the message of this id is kept, and there is room for the record in it
pub record IsRecordable (entries : List (ℕ × Filed)) (id : ℕ) (change : Change) (room : RecordRoom) : Type 0 where
  pub message : Filed
  pub kept : value_at entries id ≡ Some message
  pub place : HasRecordRoom message change room
