use Rattle.std.proofs.Common.{drop, map, ◌+◌}
use Rattle.std.proofs.lemmas.List.{drop_all}
use Rattle.node_model.specs.Reported.{receipt_of}
use Rattle.script_text.specs.Receipts.{all_posted}
use Rattle.esme_site.specs.Puts.{mail_in}
use Rattle.esme_site.proofs.Settling.{begun, behind_it}
use Rattle.esme_site.proofs.Receipts.{all_due, both_parts, one_due}
use Rattle.esme_site.proofs.posting.post_all.Goals as goal

pub loop-chain-init : goal.loop-chain-init
loop-chain-init g c = begun g.O.Outlet.puts g.met.O.Outlet.rests g.met.O.Outlet.follows (all_posted c.args.now (mail_in c.args.service.now) (map receipt_of c.args.chains.now)) c.args.outlet.now

pub loop-chain-preserved : goal.loop-chain-preserved
loop-chain-preserved g c =
    one_due g.O.Outlet.puts g.met.O.Outlet.rests g.met.O.Outlet.follows c.args.now c.loop-chain.posted c.post.result c.and-posted.result
    (all_posted c.args.now (mail_in c.args.service.now) (map receipt_of c.args.chains.now)) c.loop-chain.service c.post.new.service
    (drop c.loop-chain.chain-index c.args.chains.now) (drop (c.loop-chain.chain-index + 1) c.args.chains.now) c.chain-item.result
    c.args.outlet.now c.loop-chain.outlet c.post.new.outlet c.and-posted.ensures c.loop-chain.invariant
    (behind_it c.args.chains.now c.loop-chain.chain-index c.chain-item.result c.loop-chain-test.true c.chain-item.is)
    c.post.ensures.mail c.post.ensures.put

pub returns-clause-mail : goal.returns-clause-mail
returns-clause-mail g c =
    (both_parts c.loop-chain.posted _ _
    (all_due g.O.Outlet.puts g.met.O.Outlet.rests g.met.O.Outlet.follows c.args.now c.loop-chain.posted
    (all_posted c.args.now (mail_in c.args.service.now) (map receipt_of c.args.chains.now)) c.loop-chain.service (drop c.loop-chain.chain-index c.args.chains.now) c.args.outlet.now
    c.loop-chain.outlet c.loop-chain.invariant (drop_all c.loop-chain.chain-index c.args.chains.now c.loop-chain-test.false))).0

pub returns-clause-put : goal.returns-clause-put
returns-clause-put g c =
    (both_parts c.loop-chain.posted _ _
    (all_due g.O.Outlet.puts g.met.O.Outlet.rests g.met.O.Outlet.follows c.args.now c.loop-chain.posted
    (all_posted c.args.now (mail_in c.args.service.now) (map receipt_of c.args.chains.now)) c.loop-chain.service (drop c.loop-chain.chain-index c.args.chains.now) c.args.outlet.now
    c.loop-chain.outlet c.loop-chain.invariant (drop_all c.loop-chain.chain-index c.args.chains.now c.loop-chain-test.false))).1
