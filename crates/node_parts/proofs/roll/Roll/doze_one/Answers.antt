use Rattle.std.proofs.Common.{◌≡◌, ◌<◌, length, get_or, sym, ap, subst, ◌∙◌, arith}
use Rattle.shelf.specs.Parted.{part_of}
use Rattle.std.proofs.Common.{Some, refl}
use Rattle.std.proofs.lemmas.Bool.Decides.{nat_tests}
use Rattle.node_parts.specs.Rising.{AreRising}
use Rattle.node_parts.specs.Sleeping.{dozed, ids_of, reach_noted}
use Rattle.node_parts.specs.Waking.{looked_at}
use Rattle.node_parts.proofs.Rolled.{is_within, looked_at_one, looked_at_parted, no_part, rises_in_part, same_width}
use Rattle.node_parts.proofs.roll.Roll.doze_one.Goals as goal

pub returns-then-is_empty-clause-items : goal.returns-then-is_empty-clause-items
returns-then-is_empty-clause-items c =
    let look = dozed c.args.shelf.now.entries c.args.noted.now.me (reach_noted c.args.noted.now) (Some c.args.clock) in
    let none = (no_part c.self.inside.parts.items (grind (arith, nat_tests))).0 in
    rw (← c.self.view_is) (none ∙ sym (ap (looked_at look c.args.id) none))

pub doze_one-requires : goal.doze_one-requires
doze_one-requires c =
    let parts = c.self.inside.parts.items in
    let within : part_of c.args.id < length parts = is_within parts c.args.id c.self.invariant.number (λ none. grind (arith, nat_tests)) in
    let place = c.part_of.ensures ∙ ap part_of c.number.ensures.value in
    rises_in_part parts c.part_of.result c.index_mut.result.now (omega (arith, within, place)) c.index_mut.ensures.value
    (subst (λ e. AreRising (ids_of e.items)) (sym c.self.view_is) c.requires)

pub invariant_of-self : goal.invariant_of-self
invariant_of-self c =
    let parts = c.self.inside.parts.items in
    let part = c.index_mut.result.now in
    let look = dozed c.args.shelf.now.entries c.args.noted.now.me (reach_noted c.args.noted.now) (Some c.args.clock) in
    let within : part_of c.args.id < length parts = is_within parts c.args.id c.self.invariant.number (λ none. grind (arith, nat_tests)) in
    let place = c.part_of.ensures ∙ ap part_of c.number.ensures.value in
    let read : part ≡ get_or parts (part_of c.args.id) part = c.index_mut.ensures.value ∙ ap (λ n. get_or parts n part) place in
    rw place (looked_at_parted parts c.args.id part c.self.invariant within read c.doze_one.new.live look (λ l. refl) c.doze_one.ensures.live)

pub returns-clause-items : goal.returns-clause-items
returns-clause-items c =
    let parts = c.self.inside.parts.items in
    let part = c.index_mut.result.now in
    let look = dozed c.args.shelf.now.entries c.args.noted.now.me (reach_noted c.args.noted.now) (Some c.args.clock) in
    let within : part_of c.args.id < length parts = is_within parts c.args.id c.self.invariant.number (λ none. grind (arith, nat_tests)) in
    let place = c.part_of.ensures ∙ ap part_of c.number.ensures.value in
    let read : part ≡ get_or parts (part_of c.args.id) part = c.index_mut.ensures.value ∙ ap (λ n. get_or parts n part) place in
    rw (place, ← c.self.view_is) (looked_at_one parts c.args.id part c.self.invariant within read c.doze_one.new.live look c.doze_one.ensures.live)

pub returns-clause-width : goal.returns-clause-width
returns-clause-width c =
    let parts = c.self.inside.parts.items in
    let within : part_of c.args.id < length parts = is_within parts c.args.id c.self.invariant.number (λ none. grind (arith, nat_tests)) in
    let place = c.part_of.ensures ∙ ap part_of c.number.ensures.value in
    rw (← c.self.view_is)
    (same_width parts c.part_of.result c.index_mut.result.now (omega (arith, within, place)) c.index_mut.ensures.value c.doze_one.new.live
    c.doze_one.ensures.capacity)
