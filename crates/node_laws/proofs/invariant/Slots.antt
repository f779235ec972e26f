-- Whether two slots are the same, as it is tested.
use Rattle.std.proofs.Common.{◌≡◌, ap}
use Rattle.std.specs.Bool.{Decides}
use Rattle.std.proofs.lemmas.Bool.Decides.{Decides-and, Decides-eqb, Decides-like}
use Rattle.mc_model.specs.synod.Packet.{Slot, same_slot}

pub slot_decides : (a b : Slot) → Decides (same_slot a b) (a ≡ b)
slot_decides a b = Decides-like (same_slot a b)
    (λ p. λ i. record { id = p.0 i; place = p.1 i })
    (λ e. (ap (λ (x : Slot). x.id) e, ap (λ (x : Slot). x.place) e))
    (Decides-and _ _ (Decides-eqb a.id b.id) (Decides-eqb a.place b.place))
