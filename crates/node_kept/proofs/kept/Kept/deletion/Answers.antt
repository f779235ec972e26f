use Rattle.node_kept.specs.Keeping.{kept_of}
use Rattle.node_kept.proofs.Tells.{deletes}
use Rattle.node_kept.proofs.kept.Kept.deletion.Goals as goal

pub returns-clause-start : goal.returns-clause-start
returns-clause-start c =
    let stands = c.standpoint-at.ensures in
    deletes c.standpoint-at.result c.args.self.now.setup
    (kept_of c.args.self.now) c.args.cancelled c.args.chain.now.decrees c.in-Some.due c.in_ok-next.next stands.node stands.incarnation
    stands.clock c.in-Some.ensures.due c.in_ok-next.ensures.decrees
