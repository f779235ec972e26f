use Rattle.waiting_requests.specs.Replying.{reply_given}
use Rattle.world_runs.specs.Statements.{stated_replied}
use Rattle.world_runs.proofs.Stating.{all_told}
use Rattle.world_runs.proofs.statement.add_replies.Goals as goal

pub returns : goal.returns
returns c =
    all_told (stated_replied c.args.step) reply_given c.args.replies.now c.loop-reply.reply-index c.args.statements.now.items c.loop-reply.statements.items
    c.loop-reply-test.false c.loop-reply.invariant
