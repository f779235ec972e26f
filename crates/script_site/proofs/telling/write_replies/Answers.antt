use Rattle.std.proofs.Common.{◌≡◌, List, map, subst}
use Rattle.std.specs.Prelude.{OnOk}
use Rattle.waiting_requests.specs.Replying.{reply_given}
use Rattle.waiting_requests.specs.declared.answer.Reply.{Reply}
use Rattle.script_text.specs.Runner.{told}
use Rattle.script_site.specs.Told.{AreTold}
use Rattle.script_site.proofs.AddedLines.{are_told}
use Rattle.script_site.proofs.telling.write_replies.Goals as goal

pub returns-clause-told : goal.returns-clause-told
returns-clause-told c =
    subst (λ (replies : List Reply). OnOk c.reply_all-replied.result (AreTold c.args.node (told c.args.service.now.sessions (map reply_given replies))
    c.reply_all-replied.new.service.sessions c.args.text.now.items c.put_back.new.text.items)) c.deref.ensures.value
    (are_told c.reply_all-replied.result c.args.node c.behind-lines.result.node c.reply_all-replied.new.outlet.node c.args.text.now.items
    c.behind-lines.result.text.items c.reply_all-replied.new.outlet.text.items c.put_back.new.text.items c.behind-lines.ensures.node
    c.behind-lines.ensures.text c.put_back.ensures (told c.args.service.now.sessions (map reply_given c.deref.result.now))
    c.reply_all-replied.new.service.sessions c.reply_all-replied.ensures.sessions c.reply_all-replied.ensures.put)
