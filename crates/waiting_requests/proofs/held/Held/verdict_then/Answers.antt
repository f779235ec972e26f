use Rattle.std.proofs.Common.{Some, rules}
use Rattle.waiting_requests.specs.Waiting.{held_of}
use Rattle.waiting_requests.proofs.Settling.{answer_settled}
use Rattle.waiting_requests.proofs.held.Held.verdict_then.Goals as goal

pub returns : goal.returns
returns c =
    let all = answer_settled c.args.nodes (Some c.args.chain.now.decrees) (held_of c.args.self.now) in
    rw all (search rules)
