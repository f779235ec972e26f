use Rattle.serve_nodes.proofs.Framed.{end_frame}
use Rattle.serve_nodes.proofs.frames.FramesOutlet.end.Goals as goal

pub returns-clause-put : goal.returns-clause-put
returns-clause-put c = end_frame c.args.self.now.frames.items c.args._number
