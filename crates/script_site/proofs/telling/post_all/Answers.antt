use Rattle.std.proofs.Common.{List, map, subst}
use Rattle.std.specs.Prelude.{OnOk}
use Rattle.mc_model.specs.message.Chain.{Chain}
use Rattle.node_model.specs.Reported.{receipt_of}
use Rattle.script_text.specs.Receipts.{all_posted}
use Rattle.script_site.specs.Posting.{IsPosted, mail_in}
use Rattle.script_site.proofs.AddedLines.{is_posted}
use Rattle.script_site.proofs.telling.post_all.Goals as goal

pub returns : goal.returns
returns c =
    subst (λ (chains : List Chain). OnOk c.post_all-posted.result (IsPosted c.args.node
    (all_posted c.args.now (mail_in c.args.service.now) (map receipt_of chains)) c.post_all-posted.new.service c.args.text.now.items c.put_back.new.text.items))
    c.deref.ensures.value
    (is_posted c.post_all-posted.result c.args.node c.behind-lines.result.node c.post_all-posted.new.outlet.node c.args.text.now.items
    c.behind-lines.result.text.items c.post_all-posted.new.outlet.text.items c.put_back.new.text.items c.behind-lines.ensures.node
    c.behind-lines.ensures.text c.put_back.ensures (all_posted c.args.now (mail_in c.args.service.now) (map receipt_of c.deref.result.now))
    c.post_all-posted.new.service c.post_all-posted.ensures.mail c.post_all-posted.ensures.put)
