use Rattle.std.proofs.Common.{arith}
use Rattle.toml.specs.View.{view}
use Rattle.config_limits.specs.Reading.{IsNet}
use Rattle.config_limits.proofs.Says.{says_more}
use Rattle.config_limits.proofs.row.nets_in.Goals as goal

pub loop-value-preserved : goal.loop-value-preserved
loop-value-preserved c = rw c.in_ok-push.ensures.items
    (says_more IsNet view c.args.values.now c.loop-value.value-index c.value-item.result c.loop-value.nets.items c.in_ok-net_of.field-0 (omega arith)
    c.value-item.is c.in_ok-net_of.ensures.ok c.loop-value.invariant)
