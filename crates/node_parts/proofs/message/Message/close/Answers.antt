use Rattle.node_parts.proofs.Attempting.{closed_so}
use Rattle.node_parts.proofs.message.Message.close.Goals as goal

pub returns : goal.returns
returns c = closed_so c.args.self.now c.note.new.self c.args.place c.args.closing (rw c.at-granted.ensures at c.note.ensures)
