use Rattle.std.proofs.Common.{sym}
use Rattle.shelf.specs.Places.{StandsAt, IsGapAt, entries_of}
use Rattle.shelf.proofs.Entries.{none_between, value_there}
use Rattle.shelf.proofs.shelf.value_in.Goals as goal

pub returns-in-Ok : goal.returns-in-Ok
returns-in-Ok g c =
    let at : StandsAt (entries_of c.args.part.now) c.args.key c.in-Ok.place = c.in-Ok.ensures c.requires in
    rw c.deref.ensures (rw (← c.index-part-place.is)
    (sym (value_there c.args.part.now c.args.key c.in-Ok.place c.index-part-place.result at c.index-part-place.is)))

pub returns-in-Err : goal.returns-in-Err
returns-in-Err g c =
    let at : IsGapAt (entries_of c.args.part.now) c.args.key c.in-Err.field-0 = c.in-Err.ensures c.requires in
    sym (none_between (entries_of c.args.part.now) c.args.key c.in-Err.field-0 at)
