use Rattle.serve_nodes.specs.Frames.{puts_none}
use Rattle.serve_nodes.proofs.frames.FramesOutlet.lose.Goals as goal

pub returns : goal.returns
returns c = puts_none c.args.self.now.frames.items
