-- Keys of slots.
use Rattle.std.proofs.Common.{◌≡◌, ℕ, pos, sym, ap, ◌∙◌}
use Rattle.mc_model.specs.synod.Packet.{Slot}
use Rattle.record_rows.specs.Content.{Slot as Key}
use Rattle.sql_records.specs.Standing.{key_of, IsKeyOf}

pub same_number : (a b : ℕ) → pos a ≡ pos b → a ≡ b
same_number a b is = cc

slot_by : (a b : Slot) → a.id ≡ b.id → a.place ≡ b.place → a ≡ b
slot_by a b id place = λ i. record { id = id i; place = place i }

pub keys_are_apart : (a b : Slot) → key_of a ≡ key_of b → a ≡ b
keys_are_apart a b is = slot_by a b (same_number a.id b.id (ap (λ (k : Key). k.id) is)) (same_number a.place b.place (ap (λ (k : Key). k.place) is))

-- a row stands under the key of one slot
pub key_of_one : (a b : Slot) (key : Key) → IsKeyOf a key → IsKeyOf b key → a ≡ b
key_of_one a b key one other = keys_are_apart a b (sym one.is ∙ other.is)
