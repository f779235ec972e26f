use Rattle.std.proofs.Common.{map, refl, ap, ◌∙◌}
use Rattle.std.proofs.lemmas.List.{map-append}
use Rattle.shelf.specs.Parted.{joined, least_in, lists_of}
use Rattle.shelf.proofs.Changing.{changed_as_one, changed_lie}
use Rattle.node_parts.specs.Sleeping.{dozed, reach_noted}
use Rattle.node_parts.proofs.Rolled.{all_parted, map_so}
use Rattle.node_parts.proofs.roll.Roll.doze_each.Goals as goal

pub invariant_of-self : goal.invariant_of-self
invariant_of-self c =
    let look = dozed c.args.shelf.now.entries c.args.noted.now.me (reach_noted c.args.noted.now) c.args.clock.now in
    let old = c.self.inside.parts.items in
    all_parted c.doze_parts.new.parts.items old (map look) c.doze_parts.ensures.lists
    (changed_lie (map look) (λ l. l.id) (map_so look (λ l. refl)) 0 (lists_of old) c.self.invariant.lie) c.self.invariant

pub returns-clause-items : goal.returns-clause-items
returns-clause-items c =
    let look = dozed c.args.shelf.now.entries c.args.noted.now.me (reach_noted c.args.noted.now) c.args.clock.now in
    rw (← c.self.view_is)
    (ap joined c.doze_parts.ensures.lists ∙ changed_as_one (map look) refl (map-append look) (lists_of c.self.inside.parts.items))

pub returns-clause-width : goal.returns-clause-width
returns-clause-width c = rw (← c.self.view_is) (ap least_in c.doze_parts.ensures.widths)
