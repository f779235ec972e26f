use Rattle.std.proofs.Common.{◌≡◌, ◌<◌, length, get_or, sym, ap, subst, ◌∙◌, arith}
use Rattle.shelf.specs.Parted.{part_of}
use Rattle.std.proofs.lemmas.Bool.Decides.{nat_tests}
use Rattle.node_parts.specs.Rising.{AreRising}
use Rattle.node_parts.specs.Sleeping.{ids_of}
use Rattle.node_parts.specs.Waking.{until_at}
use Rattle.node_parts.proofs.Rolled.{is_within, no_part, rises_in_part, until_there}
use Rattle.node_parts.proofs.roll.Roll.until_at.Goals as goal

pub returns-then-is_empty : goal.returns-then-is_empty
returns-then-is_empty c rise =
    rw (← c.self.view_is) (sym (ap (λ ls. until_at ls c.args.id) (no_part c.self.inside.parts.items (grind (arith, nat_tests))).0))

pub returns : goal.returns
returns c rise =
    let parts = c.self.inside.parts.items in
    let part = c.index.result.now in
    let within : part_of c.args.id < length parts = is_within parts c.args.id c.self.invariant.number (λ none. grind (arith, nat_tests)) in
    let place = c.part_of.ensures ∙ ap part_of c.number.ensures.value in
    let read : part ≡ get_or parts (part_of c.args.id) part = c.index.ensures ∙ ap (λ n. get_or parts n part) place in
    let rises : AreRising (ids_of c.deref.result.now) = rw c.deref.ensures.value
    (rises_in_part parts (part_of c.args.id) part within read (subst (λ e. AreRising (ids_of e.items)) (sym c.self.view_is) rise)) in
    rw (← c.self.view_is)
    (c.until_at.ensures rises ∙ ap (λ ls. until_at ls c.args.id) c.deref.ensures.value ∙ sym (until_there parts c.args.id part c.self.invariant within read))
