use Rattle.std.proofs.Common.{◌≡◌, ◌<◌, ◌⊎◌, None, subst}
use Rattle.mc_model.specs.synod.Packet.{Slot}
use Rattle.node_model.specs.Message.{most_places}
use Rattle.node_model.proofs.Told.{placed_with}
use Rattle.synod_acceptor.specs.Votes.{Record, record_of, slot_recorded}
use Rattle.synod_acceptor.specs.Records.{IsFoundAt, entries_of, held_at, record_at}
use Rattle.synod_acceptor.proofs.Applied.{applied_behind, applied_there, room_behind}
use Rattle.synod_acceptor.proofs.Slots.{apart_pushed, apart_put, records_pushed, records_put}
use Rattle.synod_acceptor.proofs.acceptor.Acceptor.apply_in.Goals as goal

-- the slot of a vote is at a place of a chain
within : (slot : Slot) (after : Record) → slot ≡ slot_recorded after → ((record_of after).vote ≡ None) ⊎ (slot.place < most_places) →
    ((record_of after).vote ≡ None) ⊎ ((slot_recorded after).place < most_places)
within slot after is place = subst (λ (s : Slot). ((record_of after).vote ≡ None) ⊎ (s.place < most_places)) is place

pub invariant_of-self : goal.invariant_of-self
invariant_of-self c =
    let items = c.self.inside.records.items in
    let after = c.args.change.after in
    let found : IsFoundAt (entries_of items) (slot_recorded after) c.in-Some.place = rw (← c.deref.ensures.value, ← c.slot.ensures.slot) c.in-Some.ensures in
    record {
      apart = apart_put items c.in-Some.place after c.self.invariant.apart found;
      placed = placed_with (record_at (entries_of items)) _ (slot_recorded after) (record_of after) c.self.invariant.placed
          (within c.slot.result after c.slot.ensures.slot c.slot.ensures.place) (records_put items c.in-Some.place after c.self.invariant.apart found);
    }

pub returns-in-Some : goal.returns-in-Some
returns-in-Some c =
    let items = c.self.inside.records.items in
    let after = c.args.change.after in
    let found : IsFoundAt (entries_of items) (slot_recorded after) c.in-Some.place = rw (← c.deref.ensures.value, ← c.slot.ensures.slot) c.in-Some.ensures in
    rw (← c.self.view_is) (applied_there items c.in-Some.place after c.self.invariant.apart found)

pub push-requires : goal.push-requires
push-requires c =
    let items = c.self.inside.records.items in
    let after = c.args.change.after in
    let none : held_at (entries_of items) (slot_recorded after) ≡ None = rw (← c.deref.ensures.value, ← c.slot.ensures.slot) c.in-None.ensures in
    room_behind items (slot_recorded after) c.args.room (rw (← c.self.view_is) at c.requires) none

pub invariant_of-self-in-None : goal.invariant_of-self-in-None
invariant_of-self-in-None c =
    let items = c.self.inside.records.items in
    let after = c.args.change.after in
    let none : held_at (entries_of items) (slot_recorded after) ≡ None = rw (← c.deref.ensures.value, ← c.slot.ensures.slot) c.in-None.ensures in
    rw c.push.ensures (record {
      apart = apart_pushed items after c.self.invariant.apart none;
      placed = placed_with (record_at (entries_of items)) _ (slot_recorded after) (record_of after) c.self.invariant.placed
          (within c.slot.result after c.slot.ensures.slot c.slot.ensures.place) (records_pushed items after none);
    })

pub returns-in-None : goal.returns-in-None
returns-in-None c =
    let items = c.self.inside.records.items in
    let after = c.args.change.after in
    let none : held_at (entries_of items) (slot_recorded after) ≡ None = rw (← c.deref.ensures.value, ← c.slot.ensures.slot) c.in-None.ensures in
    rw (c.push.ensures, ← c.self.view_is) (applied_behind items after none)
