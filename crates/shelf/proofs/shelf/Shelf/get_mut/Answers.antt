use Rattle.std.proofs.Common.{◌<◌, length, Some, refl, inl, sym, ap, ◌∙◌, subst, arith}
use Rattle.std.specs.Box as boxes
use Rattle.std.specs.Vec.{with_item}
use Rattle.std.proofs.lemmas.Bool.Decides.{nat_tests}
use Rattle.std.proofs.lemmas.List.{length-map}
use Rattle.shelf.specs.Parted.{part_of}
use Rattle.shelf.specs.Places.{StandsAt, IsGapAt, entries_of, entry_of}
use Rattle.shelf.proofs.Entries.{none_between, put_there, value_there}
use Rattle.shelf.proofs.Rooms.{same_room}
use Rattle.shelf.proofs.Shelving.{ascends_in_part, is_within, no_value, put_is, read_at, read_twice, still_in_parts, value_is}
use Rattle.shelf.proofs.shelf.Shelf.get_mut.Goals as goal

pub returns-then-is_empty : goal.returns-then-is_empty
returns-then-is_empty g c =
    rw (← c.self.view_is) (
      refl,
      record {
        writes_back = tt;
        value = sym (no_value c.self.inside.parts.items c.args.key (grind (arith, nat_tests)));
      },
    )

pub index_mut-requires-in-Ok : goal.index_mut-requires-in-Ok
index_mut-requires-in-Ok g c =
    let parts = c.self.inside.parts.items in
    let within : part_of c.args.key < length parts = is_within parts c.args.key c.self.invariant.number (λ none. grind (arith, nat_tests)) in
    let inside : c.part_of-part.result < length parts = omega (arith, within, c.part_of-part.ensures) in
    let at : StandsAt (entries_of c.deref.result.now) c.args.key c.in-Ok.place =
    c.in-Ok.ensures (rw c.deref.ensures.value (ascends_in_part parts c.part_of-part.result c.index.result.now inside c.index.ensures c.self.invariant.ascend)) in
    let same = read_twice parts c.part_of-part.result c.index.result.now c.index_mut.result.now inside c.index.ensures c.index_mut.ensures.value in
    let number = length-map c.deref.result.now entry_of in
    omega (arith, at.within, number, c.deref.ensures.len, ap (λ part. part.len) same)

pub invariant_of-self-lent : goal.invariant_of-self-lent
invariant_of-self-lent g c w =
    let parts = c.self.inside.parts.items in
    let part = c.index_mut.result.now in
    let within : part_of c.args.key < length parts = is_within parts c.args.key c.self.invariant.number (λ none. grind (arith, nat_tests)) in
    let inside : c.part_of-part.result < length parts = omega (arith, within, c.part_of-part.ensures) in
    let same = read_twice parts c.part_of-part.result c.index.result.now part inside c.index.ensures c.index_mut.ensures.value in
    let at : StandsAt (entries_of part.items) c.args.key c.in-Ok.place =
    subst (λ items. StandsAt (entries_of items) c.args.key c.in-Ok.place) (c.deref.ensures.value ∙ ap (λ p. p.items) same)
    (c.in-Ok.ensures (rw c.deref.ensures.value (ascends_in_part parts c.part_of-part.result c.index.result.now inside c.index.ensures c.self.invariant.ascend))) in
    let read = read_at parts c.args.key c.part_of-part.result part c.part_of-part.ensures c.index_mut.ensures.value in
    let entry = c.index_mut-in-Ok.result.now in
    rw c.part_of-part.ensures
    (still_in_parts parts c.args.key part c.self.invariant within read w (with_item part c.in-Ok.place (entry.0, boxes.with_value entry.1 w))
    (put_there part.items c.args.key c.in-Ok.place entry (boxes.with_value entry.1 w) at c.index_mut-in-Ok.ensures.value))

pub returns-in-Ok : goal.returns-in-Ok
returns-in-Ok g c =
    let parts = c.self.inside.parts.items in
    let part = c.index_mut.result.now in
    let within : part_of c.args.key < length parts = is_within parts c.args.key c.self.invariant.number (λ none. grind (arith, nat_tests)) in
    let inside : c.part_of-part.result < length parts = omega (arith, within, c.part_of-part.ensures) in
    let same = read_twice parts c.part_of-part.result c.index.result.now part inside c.index.ensures c.index_mut.ensures.value in
    let at : StandsAt (entries_of part.items) c.args.key c.in-Ok.place =
    subst (λ items. StandsAt (entries_of items) c.args.key c.in-Ok.place) (c.deref.ensures.value ∙ ap (λ p. p.items) same)
    (c.in-Ok.ensures (rw c.deref.ensures.value (ascends_in_part parts c.part_of-part.result c.index.result.now inside c.index.ensures c.self.invariant.ascend))) in
    let read = read_at parts c.args.key c.part_of-part.result part c.part_of-part.ensures c.index_mut.ensures.value in
    let entry = c.index_mut-in-Ok.result.now in
    rw (c.part_of-part.ensures, ← c.self.view_is) (
      λ i. inl (
        c.deref_mut.result.ghost_name,
        λ w. record {
          entries = put_is parts c.args.key part c.self.invariant.lie within read w (with_item part c.in-Ok.place (entry.0, boxes.with_value entry.1 w))
              (put_there part.items c.args.key c.in-Ok.place entry (boxes.with_value entry.1 w) at c.index_mut-in-Ok.ensures.value) i;
          room = same_room parts (part_of c.args.key) part within read (with_item part c.in-Ok.place (entry.0, boxes.with_value entry.1 w)) refl i;
        },
      ),
      record {
        writes_back = tt;
        value = ap Some c.deref_mut.ensures.value ∙ sym
            (value_is parts c.args.key part c.self.invariant.lie within read
            ∙ value_there part.items c.args.key c.in-Ok.place entry at c.index_mut-in-Ok.ensures.value);
      },
    )

pub returns-in-Err : goal.returns-in-Err
returns-in-Err g c =
    let parts = c.self.inside.parts.items in
    let part = c.index.result.now in
    let within : part_of c.args.key < length parts = is_within parts c.args.key c.self.invariant.number (λ none. grind (arith, nat_tests)) in
    let at : IsGapAt (entries_of c.deref.result.now) c.args.key c.in-Err.field-0 =
    c.in-Err.ensures (rw c.deref.ensures.value
    (ascends_in_part parts c.part_of-part.result part (omega (arith, within, c.part_of-part.ensures)) c.index.ensures c.self.invariant.ascend)) in
    let read = read_at parts c.args.key c.part_of-part.result part c.part_of-part.ensures c.index.ensures in
    rw (← c.self.view_is) (
      refl,
      record {
        writes_back = tt;
        value = sym (value_is parts c.args.key part c.self.invariant.lie within read
            ∙ none_between (entries_of part.items) c.args.key c.in-Err.field-0 (rw c.deref.ensures.value at at));
      },
    )
