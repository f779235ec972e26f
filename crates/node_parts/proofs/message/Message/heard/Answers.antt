use Rattle.node_parts.proofs.Hearing.{heard_longer, heard_only}
use Rattle.node_parts.proofs.message.Message.heard.Goals as goal

pub returns-then-grows : goal.returns-then-grows
returns-then-grows c =
    let heard = c.in_ok-grows.ensures in
    heard_longer c.args.self.now c.args.from c.args.vote.now c.on_vote.new.self c.in_ok-grows.grows heard.nodes heard.grows heard.message
    c.end_reached.new.proposer c.if-grows.true c.end_reached.ensures.round c.end_reached.ensures.seen c.end_reached.ensures.same

pub returns-else-grows : goal.returns-else-grows
returns-else-grows c =
    let heard = c.in_ok-grows.ensures in
    heard_only c.args.self.now c.args.from c.args.vote.now c.on_vote.new.self c.in_ok-grows.grows heard.nodes heard.grows heard.message c.if-grows.false
