-- Records of which one is changed.
use Rattle.std.proofs.Common.{◌≡◌, Bool, true, false, refl, ap}
use Rattle.std.specs.Prelude.{◌==◌, if◌then◌else◌}
use Rattle.std.proofs.lemmas.Bool.{and_parts}
use Rattle.std.proofs.lemmas.Bool.Decides.{Decides-eqb}
use Rattle.mc_model.specs.synod.Packet.{Slot, same_slot, slot_at}
use Rattle.mc_model.specs.synod.Acceptor.{Records, with_record}

-- a record in the place of itself
pub same_record : (records : Records) (slot other : Slot) → records other ≡ with_record records slot (records slot) other
same_record records slot other = by_test (same_slot other slot) refl
  where
    by_test : (test : Bool) → same_slot other slot ≡ test → records other ≡ (if test then records slot else records other)
    by_test true same =
        let parts = and_parts (other.id == slot.id) (other.place == slot.place) same in
        ap records (λ i. slot_at ((Decides-eqb other.id slot.id).0 parts.0 i) ((Decides-eqb other.place slot.place).0 parts.1 i))
    by_test false differs = refl
