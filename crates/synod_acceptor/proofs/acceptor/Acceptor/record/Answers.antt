use Rattle.std.proofs.Common.{◌≡◌, Some, length, refl, sym}
use Rattle.std.proofs.lemmas.Option.{slice_get_read}
use Rattle.synod_acceptor.specs.Votes.{record_of, slot_recorded}
use Rattle.synod_acceptor.specs.Records.{IsFoundAt, entries_of, held_at}
use Rattle.synod_acceptor.proofs.Slots.{held_here, place_within}
use Rattle.synod_acceptor.proofs.acceptor.Acceptor.record.Goals as goal

held : (c : goal.After-index) →
    (held_at (entries_of c.self.inside.records.items) c.args.slot ≡ Some (record_of c.index.result.now)) × (slot_recorded c.index.result.now ≡ c.args.slot)
held c =
    let found : IsFoundAt (entries_of c.self.inside.records.items) c.args.slot c.in_ok-place.place = rw (← c.deref.ensures.value) c.in_ok-place.ensures in
    let within = place_within c.self.inside.records.items c.args.slot c.in_ok-place.place found in
    let stands = slice_get_read c.self.inside.records.items
    (length c.self.inside.records.items) c.in_ok-place.place c.index.result.now refl within c.index.ensures in
    held_here c.self.inside.records.items c.in_ok-place.place c.index.result.now c.args.slot c.self.invariant.apart found stands

pub returns-clause-record : goal.returns-clause-record
returns-clause-record c = rw (← c.self.view_is) (sym (held c).0)

pub returns-clause-slot : goal.returns-clause-slot
returns-clause-slot c = (held c).1
