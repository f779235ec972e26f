use Rattle.std.proofs.Common.{refl, ap, ◌∙◌}
use Rattle.std.specs.Prelude.{filter}
use Rattle.std.proofs.lemmas.List.Elements.{filter-append}
use Rattle.shelf.specs.Parted.{joined, least_in, lists_of}
use Rattle.shelf.proofs.Changing.{changed_as_one, changed_lie}
use Rattle.node_parts.specs.Living.{is_kept_listed}
use Rattle.node_parts.proofs.Rolled.{all_parted, filter_so}
use Rattle.node_parts.proofs.roll.Roll.keep_live.Goals as goal

pub invariant_of-self : goal.invariant_of-self
invariant_of-self c =
    let change = filter (is_kept_listed c.args.shelf.now.entries) in
    let old = c.self.inside.parts.items in
    all_parted c.keep_each.new.parts.items old change c.keep_each.ensures.lists
    (changed_lie change (λ l. l.id) (filter_so (is_kept_listed c.args.shelf.now.entries)) 0 (lists_of old) c.self.invariant.lie) c.self.invariant

pub returns-clause-items : goal.returns-clause-items
returns-clause-items c =
    let change = filter (is_kept_listed c.args.shelf.now.entries) in
    rw (← c.self.view_is)
    (ap joined c.keep_each.ensures.lists
    ∙ changed_as_one change refl (filter-append (is_kept_listed c.args.shelf.now.entries)) (lists_of c.self.inside.parts.items))

pub returns-clause-width : goal.returns-clause-width
returns-clause-width c = rw (← c.self.view_is) (ap least_in c.keep_each.ensures.widths)
