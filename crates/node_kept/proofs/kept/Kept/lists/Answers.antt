use Rattle.node_kept.proofs.Listing.{lists_recorded}
use Rattle.node_kept.proofs.kept.Kept.lists.Goals as goal

pub returns : goal.returns
returns c = lists_recorded c.args.self.now c.ascends.ensures
