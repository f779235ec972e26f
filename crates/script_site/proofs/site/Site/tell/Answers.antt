use Rattle.std.proofs.Common.{◌∙◌, arith, map, sym}
use Rattle.std.proofs.lemmas.Bool.Decides.{Decides-eqb}
use Rattle.waiting_requests.specs.Replying.{reply_given}
use Rattle.node_model.specs.Reported.{receipt_of}
use Rattle.script_site.proofs.Acting.{none_mapped, told_acts, told_nothing}
use Rattle.script_site.proofs.site.Site.tell.Goals as goal

pub returns : goal.returns
returns c =
    told_acts c.post_all.result (record { world = c.args.world.now; site = c.args.self.now }) c.write_replies.new.service c.post_all.new.service
    (map reply_given c.args.given.replies.items) (map receipt_of c.args.given.receipts.items) c.clock-now.result
    c.args.text.now.items c.write_replies.new.text.items c.post_all.new.text.items
    c.in_ok-write_replies.ensures.told c.in_ok-write_replies.ensures.waiting c.clock-now.ensures c.post_all.ensures

pub returns-then-is_empty-2 : goal.returns-then-is_empty-2
returns-then-is_empty-2 c =
    told_nothing (record { world = c.args.world.now; site = c.args.self.now }) (map reply_given c.args.given.replies.items)
    (map receipt_of c.args.given.receipts.items) c.args.text.now.items
    (none_mapped reply_given c.args.given.replies.items
    (omega (arith, (Decides-eqb c.args.given.replies.len 0).0 (sym c.is_empty.ensures ∙ c.if-is_empty.true), c.args.given.replies.ok)))
    (none_mapped receipt_of c.args.given.receipts.items
    (omega (arith, (Decides-eqb c.args.given.receipts.len 0).0 (sym c.is_empty-then-is_empty.ensures ∙ c.if-is_empty-2.true), c.args.given.receipts.ok)))
