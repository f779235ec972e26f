-- What is to be saved before an answer is sent.
use Rattle.std.specs.Prelude.{◌≡◌, Option, Some, None}
use Rattle.mc_model.specs.synod.Packet.{Slot}
use Rattle.mc_model.specs.synod.Acceptor.{SlotRecord}
use Rattle.synod_acceptor.specs.Votes.{record_of, slot_recorded}
use Rattle.synod_acceptor.specs.declared.record.Change.{Change}

-- A change is of this slot, and puts another record in the place of the old one; there is none if the record stays.
abbrev pub Changes : Slot → SlotRecord → SlotRecord → Option Change → Type 0
Changes slot old new None = new ≡ old
Changes slot old new (Some change) =
    (slot_recorded change.after ≡ slot) × (record_of change.after ≡ new) × (new ≡ old → ⊥)
