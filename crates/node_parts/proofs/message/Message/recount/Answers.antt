use Rattle.node_parts.proofs.Counting.{heard_anew}
use Rattle.node_parts.proofs.message.Message.recount.Goals as goal

pub returns : goal.returns
returns c = heard_anew c.args.self.now c.args.from c.args.vote.now c.recount.result c.recount.ensures
