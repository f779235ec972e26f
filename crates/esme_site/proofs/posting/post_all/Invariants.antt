use Rattle.std.proofs.Common.{drop, map}
use Rattle.std.specs.Prelude.{OnOk}
use Rattle.node_model.specs.Reported.{receipt_of}
use Rattle.script_text.specs.Receipts.{all_posted}
use Rattle.esme_site.specs.Puts.{mail_in}
use Rattle.esme_site.proofs.Settling.{IsUnderWay}
use Rattle.esme_site.proofs.posting.post_all.Given as goal

abbrev pub invariant-loop-chain : goal.invariant-loop-chain
invariant-loop-chain g l =
    OnOk l.posted (IsUnderWay g.O.Outlet.puts l.posted (all_posted l.now (mail_in l.fn.service) (map receipt_of l.chains))
    (all_posted l.now (mail_in l.service) (map receipt_of (drop l.chain-index l.chains))) l.fn.outlet l.outlet)
