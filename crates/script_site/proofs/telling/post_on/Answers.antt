use Rattle.esme_site.specs.Puts.{posted_on}
use Rattle.script_site.proofs.AddedLines.{is_posted}
use Rattle.script_site.proofs.telling.post_on.Goals as goal

pub returns : goal.returns
returns c =
    is_posted c.post_on-posted.result c.args.node c.behind-lines.result.node c.post_on-posted.new.outlet.node c.args.text.now.items
    c.behind-lines.result.text.items c.post_on-posted.new.outlet.text.items c.put_back.new.text.items c.behind-lines.ensures.node
    c.behind-lines.ensures.text c.put_back.ensures (posted_on c.args.now c.args.service.now c.args.number)
    c.post_on-posted.new.service c.post_on-posted.ensures.mail c.post_on-posted.ensures.put
