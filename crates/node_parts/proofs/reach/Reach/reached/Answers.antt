use Rattle.std.proofs.Common.{◌∙◌}
use Rattle.delivery.specs.Targets.{is_up}
use Rattle.tick_rules.specs.Reaching.{reached_by}
use Rattle.node_parts.specs.Reaching.{reach_with}
use Rattle.node_parts.proofs.reach.Reach.reached.Goals as goal

pub returns : goal.returns
returns c =
    c.reached_with.ensures c.args.id
    ∙ (λ i. reached_by (reach_with (is_up (c.deref.ensures.value i)) (c.may.ensures i)) c.args.id c.args.taken.now)
