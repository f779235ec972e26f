use Rattle.std.proofs.Common.{sym}
use Rattle.tick_rules.proofs.Asleep.{nothing_until, until_there}
use Rattle.tick_rules.proofs.waking.until_due.Goals as goal

pub returns-clause-nothing : goal.returns-clause-nothing
returns-clause-nothing c =
    let decrees = c.args.chain.now.decrees in
    nothing_until c.args.author c.args.attempted c.args.reached decrees c.waits_until.result
    (until_there c.args.author c.args.attempted c.args.reached decrees c.least.result c.due.result c.waits_until.result c.least.ensures c.due.ensures.due
    (sym c.if-is_some.ensures) c.waits_until.ensures)
