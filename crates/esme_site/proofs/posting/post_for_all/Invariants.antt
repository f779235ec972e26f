use Rattle.std.proofs.Common.{drop}
use Rattle.script_text.specs.Receipts.{posted_for_all}
use Rattle.esme_site.specs.Puts.{mail_in}
use Rattle.esme_site.proofs.Settling.{IsUnderWay}
use Rattle.esme_site.proofs.posting.post_for_all.Given as goal

abbrev pub invariant-loop-account : goal.invariant-loop-account
invariant-loop-account g l =
    IsUnderWay g.O.Outlet.puts l.posted (posted_for_all l.now (mail_in l.fn.service) l.accounts)
    (posted_for_all l.now (mail_in l.service) (drop l.account-index l.accounts)) l.fn.outlet l.outlet
