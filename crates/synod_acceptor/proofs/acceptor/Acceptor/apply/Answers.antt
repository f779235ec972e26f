use Rattle.std.proofs.Common.{◌≡◌, ◌<◌, ◌⊎◌, length, List, None, sym, ap, subst, ◌∙◌, rules, arith}
use Rattle.std.specs.Vec.{vec_len}
use Rattle.mc_model.specs.synod.Packet.{Slot}
use Rattle.node_model.specs.Message.{most_places}
use Rattle.node_model.proofs.Told.{placed_with}
use Rattle.synod_acceptor.specs.Votes.{Record, record_of, slot_recorded}
use Rattle.synod_acceptor.specs.Records.{IsFoundAt, entries_of, held_at, record_at}
use Rattle.synod_acceptor.proofs.Slots.{place_none, place_within, apart_put, records_put, apart_pushed, records_pushed}
use Rattle.synod_acceptor.proofs.acceptor.Acceptor.apply.Goals as goal

none_held : (c : goal.In_ok-push) → held_at (entries_of c.self.inside.records.items) (slot_recorded c.args.change.after) ≡ None
none_held c =
    rw (← c.deref.ensures.value, ← c.slot.ensures.slot)
    (place_none (entries_of c.deref.result.now) c.slot.result c.place_of.result c.place_of.ensures (search rules))

-- the slot of a vote is at a place of a chain
within : (slot : Slot) (after : Record) → slot ≡ slot_recorded after → ((record_of after).vote ≡ None) ⊎ (slot.place < most_places) →
    ((record_of after).vote ≡ None) ⊎ ((slot_recorded after).place < most_places)
within slot after is place = subst (λ (s : Slot). ((record_of after).vote ≡ None) ⊎ (s.place < most_places)) is place

pub invariant_of-self-in_default : goal.invariant_of-self-in_default
invariant_of-self-in_default c =
    let items = c.self.inside.records.items in
    let after = c.args.change.after in
    rw c.in_ok-push.ensures.items (record {
      apart = apart_pushed items after c.self.invariant.apart (none_held c);
      placed = placed_with (record_at (entries_of items)) _ (slot_recorded after) (record_of after) c.self.invariant.placed
          (within c.slot.result after c.slot.ensures.slot c.slot.ensures.place) (records_pushed items after (none_held c));
    })

pub returns-in_default-clause-ok : goal.returns-in_default-clause-ok
returns-in_default-clause-ok c =
    rw (c.in_ok-push.ensures.items, ← c.self.view_is) (records_pushed c.self.inside.records.items c.args.change.after (none_held c))

pub index_mut-requires : goal.index_mut-requires
index_mut-requires c =
    let found : IsFoundAt (entries_of c.self.inside.records.items) (slot_recorded c.args.change.after) c.in-Some.place =
    rw (← c.deref.ensures.value, ← c.slot.ensures.slot) c.in-Some.ensures in
    let within = place_within c.self.inside.records.items (slot_recorded c.args.change.after) c.in-Some.place found in
    let count : length c.self.inside.records.items ≡ vec_len c.self.inside.records = sym
    (ap (λ (rs : List Record). length rs) c.deref.ensures.value) ∙ c.deref.ensures.len in
    omega (arith, within, count)

found_at : (c : goal.Joined-index_mut-change) → IsFoundAt (entries_of c.self.inside.records.items) (slot_recorded c.args.change.after) c.in-Some.place
found_at c = rw (← c.deref.ensures.value, ← c.slot.ensures.slot) c.in-Some.ensures

pub invariant_of-self-2 : goal.invariant_of-self-2
invariant_of-self-2 c =
    let items = c.self.inside.records.items in
    let after = c.args.change.after in
    record {
      apart = apart_put items c.in-Some.place after c.self.invariant.apart (found_at c);
      placed = placed_with (record_at (entries_of items)) _ (slot_recorded after) (record_of after) c.self.invariant.placed
          (within c.slot.result after c.slot.ensures.slot c.slot.ensures.place)
          (records_put items c.in-Some.place after c.self.invariant.apart (found_at c));
    }

pub returns-clause-ok : goal.returns-clause-ok
returns-clause-ok c = rw (← c.self.view_is) (records_put c.self.inside.records.items c.in-Some.place c.args.change.after c.self.invariant.apart (found_at c))
