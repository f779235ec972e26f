use Rattle.synod_acceptor.specs.Records.{IsFoundAt, entries_of}
use Rattle.synod_acceptor.proofs.Applied.{found_place}
use Rattle.synod_acceptor.proofs.acceptor.Acceptor.room.Goals as goal

pub returns-in-Some-clause-place : goal.returns-in-Some-clause-place
returns-in-Some-clause-place c =
    let items = c.self.inside.records.items in
    let found : IsFoundAt (entries_of items) c.args.slot c.in-Some.field-0 = rw (← c.deref.ensures.value) c.in-Some.ensures in
    rw (← c.self.view_is) (found_place items c.args.slot c.in-Some.field-0 c.none.result c.self.invariant.apart found)
