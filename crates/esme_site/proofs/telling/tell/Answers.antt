use Rattle.std.proofs.Common.{map}
use Rattle.node_model.specs.Reported.{receipt_of}
use Rattle.waiting_requests.specs.Replying.{reply_given}
use Rattle.esme_site.proofs.GivenOut.{mail_given, prints_given}
use Rattle.esme_site.proofs.telling.tell.Goals as goal

pub returns-clause-mail : goal.returns-clause-mail
returns-clause-mail g c =
    mail_given c.args.now c.args.service.now c.reply_all-replied.new.service (map reply_given c.args.replies.now)
    (map receipt_of c.args.receipts.now) c.reply_all-replied.ensures.sessions c.reply_all-replied.ensures.waiting
    c.reply_all-replied.result c.post_all-posted.result c.and.result c.post_all-posted.new.service c.and.ensures c.post_all-posted.ensures.mail

pub returns-clause-put : goal.returns-clause-put
returns-clause-put g c =
    prints_given c.args.now c.args.service.now c.reply_all-replied.new.service (map reply_given c.args.replies.now)
    (map receipt_of c.args.receipts.now) c.reply_all-replied.ensures.sessions c.reply_all-replied.ensures.waiting g.O.Outlet.puts g.met.O.Outlet.follows
    c.reply_all-replied.result c.post_all-posted.result c.and.result c.args.outlet.now c.reply_all-replied.new.outlet c.post_all-posted.new.outlet c.and.ensures c.reply_all-replied.ensures.put
    c.post_all-posted.ensures.put
