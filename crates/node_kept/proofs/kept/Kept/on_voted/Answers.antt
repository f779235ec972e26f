use Rattle.node_kept.proofs.Quiet.{prepared_quietly}
use Rattle.node_kept.proofs.kept.Kept.on_voted.Goals as goal

pub returns-in-Some : goal.returns-in-Some
returns-in-Some c = prepared_quietly c.args.self.now _ c.in-Some.quiet c.quietly.result c.quietly.ensures c.in-Some.ensures.step
