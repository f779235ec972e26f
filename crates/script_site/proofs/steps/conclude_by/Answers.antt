use Rattle.script_site.proofs.Concluding.{delivered_if}
use Rattle.script_site.proofs.steps.conclude_by.Goals as goal

pub returns : goal.returns
returns c =
    delivered_if c.conclude.result c.args.node c.args.delivery c.args.outcome c.in-Attempt.slot c.in-Some.outcome c.args.world.now c.conclude.new.world
    c.in-Attempt.is c.in-Some.is c.conclude.ensures
