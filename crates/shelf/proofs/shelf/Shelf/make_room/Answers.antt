use Rattle.std.proofs.Common.{◌≡◌, ◌≤◌, ◌-◌, length, sym, ap, ◌∙◌, ⊎_elim, arith}
use Rattle.std.proofs.lemmas.Bool.Decides.{nat_tests}
use Rattle.shelf.specs.Parted.{room_in}
use Rattle.shelf.specs.Places.{entries_in}
use Rattle.shelf.proofs.Shelving.{empty_in_parts, how_many, no_entries, no_parts, same_in_parts, same_lists_in}
use Rattle.shelf.specs.Parted.{joined}
use Rattle.shelf.proofs.shelf.Shelf.make_room.Goals as goal

pub invariant_of-self : goal.invariant_of-self
invariant_of-self g c = empty_in_parts c.room.inside.parts.items c.room.invariant.0 c.room.invariant.1

pub returns-then-is_empty-clause-entries : goal.returns-then-is_empty-clause-entries
returns-then-is_empty-clause-entries g c =
    rw (← c.self.view_is) (
    no_entries c.room.inside.parts.items c.room.invariant.1
    ∙ sym (no_parts c.self.inside.parts.items (grind (arith, nat_tests))).0
    )

pub invariant_of-self-else-is_empty : goal.invariant_of-self-else-is_empty
invariant_of-self-else-is_empty g c =
    same_in_parts c.widen_parts.new.parts.items c.self.inside.parts.items
    (same_lists_in c.widen_parts.new.parts.items c.self.inside.parts.items c.widen_parts.ensures.lists) c.self.invariant

pub returns-else-is_empty-clause-entries : goal.returns-else-is_empty-clause-entries
returns-else-is_empty-clause-entries g c =
    rw (← c.self.view_is) (ap joined (same_lists_in c.widen_parts.new.parts.items c.self.inside.parts.items c.widen_parts.ensures.lists))

pub returns-else-is_empty-clause-room : goal.returns-else-is_empty-clause-room
returns-else-is_empty-clause-room g c =
    let parts = c.self.inside.parts.items in
    let new = c.widen_parts.new.parts.items in
    let ten : length parts ≡ 10 =
    ⊎_elim (λ none. absurd (grind (arith, nat_tests))) (λ ten. ten) c.self.invariant.number in
    let many = how_many parts in
    let taken : room_in c.room.inside.parts.items - length (entries_in parts) ≤ room_in new =
    ⊎_elim
    (λ none. let no_room = (no_parts c.room.inside.parts.items none).1 in omega (arith, no_room))
    (λ as_many. let more = c.widen_parts.ensures.room (omega (arith, as_many, ten)) in omega (arith, more, many))
    c.room.invariant.0 in
    rw (← c.self.view_is, ← c.room.view_is) (let kept = c.widen_parts.ensures.kept in omega (arith, taken, kept))
