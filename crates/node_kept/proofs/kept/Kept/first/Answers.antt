use Rattle.node_kept.proofs.Answering.{taken_fresh}
use Rattle.node_kept.proofs.kept.Kept.first.Goals as goal

pub returns : goal.returns
returns c =
    let own = (rw (c.author.ensures.node, c.author.ensures.incarnation, c.nodes.ensures) at c.fresh.ensures.own) c.args.id c.bounds.ensures in
    taken_fresh c.args.self.now c.args.id c.fresh.result c.requires (c.fresh.ensures.message c.args.id) c.fresh.ensures.records own
