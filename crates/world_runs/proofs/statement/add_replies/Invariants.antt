use Rattle.std.proofs.Common.{◌≡◌, ◌++◌, flat_map, take}
use Rattle.waiting_requests.specs.Replying.{reply_given}
use Rattle.world_runs.specs.Statements.{stated_replied}
use Rattle.world_runs.proofs.statement.add_replies.Given as goal

abbrev pub invariant-loop-reply : goal.invariant-loop-reply
invariant-loop-reply l = l.statements.items ≡ l.fn.statements.items ++ flat_map (λ one. stated_replied l.step (reply_given one)) (take l.reply-index l.replies)
