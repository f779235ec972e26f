use Rattle.std.proofs.Common.{◌≡◌, subst, arith, None, IsSome}
use mathlib.Core.Bool.{false≢true}
use Rattle.shelf.specs.Shelved.{value_at}
use Rattle.shelf.specs.Places.{StandsAt, IsGapAt, entries_of}
use Rattle.shelf.proofs.Entries.{none_between, put_there, put_between}
use Rattle.shelf.proofs.shelf.put_in.Goals as goal

pub returns-in-Ok-clause-entries : goal.returns-in-Ok-clause-entries
returns-in-Ok-clause-entries g c =
    let at : StandsAt (entries_of c.deref.result.now) c.args.key c.in-Ok.place = c.in-Ok.ensures (rw c.deref.ensures.value c.requires.ascends) in
    put_there c.args.part.now.items c.args.key c.in-Ok.place c.index_mut.result.now c.args.value
    (rw c.deref.ensures.value at at) c.index_mut.ensures.value

pub insert_reserved-requires-clause-room : goal.insert_reserved-requires-clause-room
insert_reserved-requires-clause-room g c =
    let at : IsGapAt (entries_of c.deref.result.now) c.args.key c.in-Err.place = c.in-Err.ensures (rw c.deref.ensures.value c.requires.ascends) in
    let none : value_at (entries_of c.args.part.now.items) c.args.key ≡ None = none_between
    (entries_of c.args.part.now.items) c.args.key c.in-Err.place (rw c.deref.ensures.value at at) in
    omega (arith, c.requires.room none)

pub returns-in-Err-clause-entries : goal.returns-in-Err-clause-entries
returns-in-Err-clause-entries g c =
    let at : IsGapAt (entries_of c.deref.result.now) c.args.key c.in-Err.place = c.in-Err.ensures (rw c.deref.ensures.value c.requires.ascends) in
    rw (c.insert_reserved.ensures.items)
    (put_between c.args.part.now.items c.args.key c.in-Err.place c.args.value (rw c.deref.ensures.value at at))

pub returns-in-Err-clause-kept : goal.returns-in-Err-clause-kept
returns-in-Err-clause-kept g c some =
    let at : IsGapAt (entries_of c.deref.result.now) c.args.key c.in-Err.place = c.in-Err.ensures (rw c.deref.ensures.value c.requires.ascends) in
    let none : value_at (entries_of c.args.part.now.items) c.args.key ≡ None = none_between
    (entries_of c.args.part.now.items) c.args.key c.in-Err.place (rw c.deref.ensures.value at at) in
    absurd (false≢true (subst IsSome none some))
