-- The records of an acceptor once a change is made.
use Rattle.std.specs.Prelude.{◌⊎◌, ◌<◌, List, [], ◌∷◌, length, IsSome, if◌then◌else◌}
use Rattle.std.specs.Vec.{vec_capacity}
use Rattle.mc_model.specs.synod.Packet.{Slot, same_slot}
use Rattle.mc_model.specs.synod.Acceptor.{SlotRecord}
use Rattle.synod_acceptor.specs.Records.{held_at}
use Rattle.synod_acceptor.specs.declared.room.RecordRoom.{RecordRoom}

-- an entry in the place of the one of its slot; behind all others, if there is none
abbrev pub with_entry : List (Slot × SlotRecord) → Slot × SlotRecord → List (Slot × SlotRecord)
with_entry [] entry = entry ∷ []
with_entry (first ∷ others) entry = if same_slot first.0 entry.0 then entry ∷ others else first ∷ with_entry others entry

-- there is room for the record of a slot: it has one, or one more fits than there are
abbrev pub HasPlace : List (Slot × SlotRecord) → Slot → RecordRoom → Type 0
HasPlace entries slot room = IsSome (held_at entries slot) ⊎ (length entries < vec_capacity room.records)
