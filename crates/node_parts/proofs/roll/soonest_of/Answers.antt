use Rattle.std.proofs.Common.{◌+◌, drop, sym, ap, ◌∙◌}
use Rattle.shelf.specs.Parted.{all_in}
use Rattle.shelf.proofs.Parting.{all_drop}
use Rattle.node_parts.specs.Waking.{soonest_in}
use Rattle.node_parts.proofs.Rolled.{soonest_joined}
use Rattle.node_parts.proofs.roll.soonest_of.Goals as goal

pub loop-part-preserved : goal.loop-part-preserved
loop-part-preserved c =
    let parts = c.args.parts.now in
    let part = c.part-item.result in
    let rest = all_in (drop (c.loop-part.part-index + 1) parts) in
    ap (soonest_in rest) (c.soonest_in-soonest.ensures ∙ ap (λ ls. soonest_in ls c.loop-part.soonest) c.deref.ensures.value)
    ∙ sym (soonest_joined part.items rest c.loop-part.soonest)
    ∙ sym (ap (λ ls. soonest_in ls c.loop-part.soonest) (all_drop parts c.loop-part.part-index part c.loop-part-test.true c.part-item.is))
    ∙ c.loop-part.invariant
