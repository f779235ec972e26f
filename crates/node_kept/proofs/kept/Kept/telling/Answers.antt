use Rattle.node_kept.specs.Keeping.{kept_of}
use Rattle.node_kept.proofs.Tells.{announces, announces_none}
use Rattle.node_kept.proofs.kept.Kept.telling.Goals as goal

pub returns-clause-start : goal.returns-clause-start
returns-clause-start c =
    let stands = c.standpoint-at.ensures in
    announces c.standpoint-at.result c.args.self.now.setup (kept_of c.args.self.now) stands.node stands.incarnation stands.clock
    c.args.chain.now.decrees c.bounds.ensures.taken.0 c.in-Some.due c.in_ok-next.next c.bounds.ensures.taken.1 c.in-Some.ensures.due
    c.in_ok-next.ensures.decrees

pub returns-in_default-clause-start : goal.returns-in_default-clause-start
returns-in_default-clause-start c =
    let stands = c.standpoint-at.ensures in
    announces_none c.standpoint-at.result c.args.self.now.setup (kept_of c.args.self.now) stands.node stands.incarnation stands.clock
    c.args.chain.now.decrees c.bounds.ensures.taken.0 c.telling.result c.bounds.ensures.taken.1 c.telling.ensures.due c.in_default.not-Some
