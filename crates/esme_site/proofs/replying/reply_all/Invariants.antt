use Rattle.std.proofs.Common.{◌≡◌, drop, map}
use Rattle.waiting_requests.specs.Replying.{reply_given}
use Rattle.script_text.specs.Runner.{told}
use Rattle.esme_site.proofs.Settling.{IsUnderWay}
use Rattle.esme_site.proofs.replying.reply_all.Given as goal

abbrev pub invariant-loop-reply : goal.invariant-loop-reply
invariant-loop-reply g l =
    IsUnderWay g.O.Outlet.puts l.replied (told l.fn.service.sessions (map reply_given l.replies))
    (told l.service.sessions (map reply_given (drop l.reply-index l.replies))) l.fn.outlet l.outlet
    × (l.service.waiting ≡ l.fn.service.waiting)
