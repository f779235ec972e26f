use Rattle.std.proofs.Common.{length}
use Rattle.script_text.specs.Receipts.{posted_for}
use Rattle.esme_site.specs.Puts.{mail_in}
use Rattle.esme_site.proofs.Settling.{IsUnderWay}
use Rattle.esme_site.proofs.posting.post_for.Given as goal

abbrev pub invariant-receipts : goal.invariant-receipts
invariant-receipts g l =
    IsUnderWay g.O.Outlet.puts l.posted (posted_for l.now (mail_in l.fn.service) l.account) (posted_for l.now (mail_in l.service) l.account) l.fn.outlet l.outlet

abbrev pub decreases-receipts : goal.decreases-receipts
decreases-receipts g l = length l.service.waiting
