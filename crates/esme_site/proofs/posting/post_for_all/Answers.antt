use Rattle.std.proofs.Common.{drop, ◌+◌}
use Rattle.std.proofs.lemmas.List.{drop_all}
use Rattle.script_text.specs.Receipts.{posted_for_all}
use Rattle.esme_site.specs.Puts.{mail_in}
use Rattle.esme_site.proofs.Settling.{begun, behind_it, on_err, on_ok}
use Rattle.esme_site.proofs.Receipts.{all_served, one_served}
use Rattle.esme_site.proofs.posting.post_for_all.Goals as goal

pub loop-account-init : goal.loop-account-init
loop-account-init g c = begun g.O.Outlet.puts g.met.O.Outlet.rests g.met.O.Outlet.follows (posted_for_all c.args.now (mail_in c.args.service.now) c.args.accounts.now) c.args.outlet.now

pub loop-account-preserved : goal.loop-account-preserved
loop-account-preserved g c =
    one_served g.O.Outlet.puts g.met.O.Outlet.rests g.met.O.Outlet.follows c.args.now c.loop-account.posted c.post_for.result c.and-posted.result
    (posted_for_all c.args.now (mail_in c.args.service.now) c.args.accounts.now) c.loop-account.service c.post_for.new.service
    (drop c.loop-account.account-index c.args.accounts.now) (drop (c.loop-account.account-index + 1) c.args.accounts.now) c.account-item.result
    c.args.outlet.now c.loop-account.outlet c.post_for.new.outlet c.and-posted.ensures c.loop-account.invariant
    (behind_it c.args.accounts.now c.loop-account.account-index c.account-item.result c.loop-account-test.true c.account-item.is)
    c.post_for.ensures.mail c.post_for.ensures.put c.post_for.ensures.err

pub returns-clause-mail : goal.returns-clause-mail
returns-clause-mail g c =
    (all_served g.O.Outlet.puts g.met.O.Outlet.rests g.met.O.Outlet.follows c.args.now c.loop-account.posted
    (posted_for_all c.args.now (mail_in c.args.service.now) c.args.accounts.now) c.loop-account.service (drop c.loop-account.account-index c.args.accounts.now) c.args.outlet.now
    c.loop-account.outlet c.loop-account.invariant (drop_all c.loop-account.account-index c.args.accounts.now c.loop-account-test.false)).0

pub returns-clause-put : goal.returns-clause-put
returns-clause-put g c =
    on_ok g.O.Outlet.puts c.loop-account.posted (posted_for_all c.args.now (mail_in c.args.service.now) c.args.accounts.now).prints c.args.outlet.now c.loop-account.outlet
    (all_served g.O.Outlet.puts g.met.O.Outlet.rests g.met.O.Outlet.follows c.args.now c.loop-account.posted
    (posted_for_all c.args.now (mail_in c.args.service.now) c.args.accounts.now) c.loop-account.service (drop c.loop-account.account-index c.args.accounts.now) c.args.outlet.now
    c.loop-account.outlet c.loop-account.invariant (drop_all c.loop-account.account-index c.args.accounts.now c.loop-account-test.false)).1

pub returns-clause-err : goal.returns-clause-err
returns-clause-err g c =
    on_err g.O.Outlet.puts c.loop-account.posted (posted_for_all c.args.now (mail_in c.args.service.now) c.args.accounts.now).prints c.args.outlet.now c.loop-account.outlet
    (all_served g.O.Outlet.puts g.met.O.Outlet.rests g.met.O.Outlet.follows c.args.now c.loop-account.posted
    (posted_for_all c.args.now (mail_in c.args.service.now) c.args.accounts.now) c.loop-account.service (drop c.loop-account.account-index c.args.accounts.now) c.args.outlet.now
    c.loop-account.outlet c.loop-account.invariant (drop_all c.loop-account.account-index c.args.accounts.now c.loop-account-test.false)).1
