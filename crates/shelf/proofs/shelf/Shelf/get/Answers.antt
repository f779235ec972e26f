use Rattle.std.proofs.Common.{◌≡◌, ◌<◌, length, get_or, sym, ap, ◌∙◌, arith}
use Rattle.std.proofs.lemmas.Bool.Decides.{nat_tests}
use Rattle.shelf.specs.Parted.{part_of}
use Rattle.shelf.specs.Shelved.{value_at}
use Rattle.shelf.specs.Places.{entries_of}
use Rattle.shelf.proofs.Shelving.{ascends_in_part, is_within, no_value, value_is}
use Rattle.shelf.proofs.shelf.Shelf.get.Goals as goal

pub value_in-requires : goal.value_in-requires
value_in-requires g c =
    let parts = c.self.inside.parts.items in
    let within : part_of c.args.key < length parts = is_within parts c.args.key c.self.invariant.number (λ none. grind (arith, nat_tests)) in
    rw c.deref.ensures.value
    (ascends_in_part parts c.part_of.result c.index.result.now (omega (arith, within)) c.index.ensures c.self.invariant.ascend)

pub returns-then-is_empty : goal.returns-then-is_empty
returns-then-is_empty g c = rw (← c.self.view_is) (sym (no_value c.self.inside.parts.items c.args.key (grind (arith, nat_tests))))

pub returns : goal.returns
returns g c =
    let parts = c.self.inside.parts.items in
    let within : part_of c.args.key < length parts = is_within parts c.args.key c.self.invariant.number (λ none. grind (arith, nat_tests)) in
    let read : c.index.result.now ≡ get_or parts (part_of c.args.key) c.index.result.now =
    c.index.ensures ∙ ap (λ n. get_or parts n c.index.result.now) c.part_of.ensures in
    rw (← c.self.view_is)
    (c.value_in.ensures
    ∙ ap (λ items. value_at (entries_of items) c.args.key) c.deref.ensures.value
    ∙ sym (value_is parts c.args.key c.index.result.now c.self.invariant.lie within read))
