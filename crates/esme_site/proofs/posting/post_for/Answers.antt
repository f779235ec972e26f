use Rattle.script_text.specs.Receipts.{posted_for}
use Rattle.esme_site.specs.Puts.{mail_in}
use Rattle.esme_site.proofs.Settling.{begun, on_err, on_ok}
use Rattle.esme_site.proofs.Receipts.{fewer_wait, none_sent, one_sent}
use Rattle.esme_site.proofs.posting.post_for.Goals as goal

pub receipts-init : goal.receipts-init
receipts-init g c = begun g.O.Outlet.puts g.met.O.Outlet.rests g.met.O.Outlet.follows (posted_for c.args.now (mail_in c.args.service.now) c.args.account.now) c.args.outlet.now

pub receipts-smaller : goal.receipts-smaller
receipts-smaller g c = fewer_wait c.receipts.service c.args.account.now c.args.now c.in-Some.sending c.next_receipt.new.self c.in-Some.ensures

pub receipts-preserved : goal.receipts-preserved
receipts-preserved g c =
    one_sent g.O.Outlet.puts g.met.O.Outlet.rests g.met.O.Outlet.follows c.args.now c.args.account.now c.receipts.posted c.put_or_lose.result c.and-posted.result
    (posted_for c.args.now (mail_in c.args.service.now) c.args.account.now) c.receipts.service c.next_receipt.new.self c.in-Some.sending c.args.outlet.now c.receipts.outlet
    c.put_or_lose.new.outlet c.and-posted.ensures c.receipts.invariant c.in-Some.ensures c.put_or_lose.ensures.put c.put_or_lose.ensures.err

pub returns-in_default-clause-mail : goal.returns-in_default-clause-mail
returns-in_default-clause-mail g c =
    (none_sent g.O.Outlet.puts g.met.O.Outlet.rests g.met.O.Outlet.follows c.args.now c.args.account.now c.receipts.posted
    (posted_for c.args.now (mail_in c.args.service.now) c.args.account.now) c.receipts.service c.next_receipt.new.self c.args.outlet.now c.receipts.outlet
    c.receipts.invariant c.in_default.ensures).0

pub returns-in_default-clause-put : goal.returns-in_default-clause-put
returns-in_default-clause-put g c =
    on_ok g.O.Outlet.puts c.receipts.posted (posted_for c.args.now (mail_in c.args.service.now) c.args.account.now).prints c.args.outlet.now c.receipts.outlet
    (none_sent g.O.Outlet.puts g.met.O.Outlet.rests g.met.O.Outlet.follows c.args.now c.args.account.now c.receipts.posted
    (posted_for c.args.now (mail_in c.args.service.now) c.args.account.now) c.receipts.service c.next_receipt.new.self c.args.outlet.now c.receipts.outlet
    c.receipts.invariant c.in_default.ensures).1

pub returns-in_default-clause-err : goal.returns-in_default-clause-err
returns-in_default-clause-err g c =
    on_err g.O.Outlet.puts c.receipts.posted (posted_for c.args.now (mail_in c.args.service.now) c.args.account.now).prints c.args.outlet.now c.receipts.outlet
    (none_sent g.O.Outlet.puts g.met.O.Outlet.rests g.met.O.Outlet.follows c.args.now c.args.account.now c.receipts.posted
    (posted_for c.args.now (mail_in c.args.service.now) c.args.account.now) c.receipts.service c.next_receipt.new.self c.args.outlet.now c.receipts.outlet
    c.receipts.invariant c.in_default.ensures).1
