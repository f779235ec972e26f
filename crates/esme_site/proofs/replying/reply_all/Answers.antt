use Rattle.std.proofs.Common.{map, drop, ap, refl, ◌+◌, ◌∙◌}
use Rattle.std.proofs.lemmas.List.{drop_all}
use Rattle.waiting_requests.specs.Replying.{reply_given}
use Rattle.esme_service.specs.Service.{Service}
use Rattle.script_text.specs.Runner.{told}
use Rattle.esme_site.proofs.Settling.{begun, behind_it, on_err, on_ok}
use Rattle.esme_site.proofs.Replies.{all_told, one_told}
use Rattle.esme_site.proofs.replying.reply_all.Goals as goal

pub loop-reply-init : goal.loop-reply-init
loop-reply-init g c =
    (begun g.O.Outlet.puts g.met.O.Outlet.rests g.met.O.Outlet.follows (told c.args.service.now.sessions (map reply_given c.args.replies.now)) c.args.outlet.now, refl)

pub loop-reply-preserved : goal.loop-reply-preserved
loop-reply-preserved g c = (
  one_told g.O.Outlet.puts g.met.O.Outlet.rests g.met.O.Outlet.follows c.loop-reply.replied c.reply_one.result c.and-replied.result
      (told c.args.service.now.sessions (map reply_given c.args.replies.now)) c.loop-reply.service.sessions c.reply_one.new.service.sessions
      c.reply-item.result (drop c.loop-reply.reply-index c.args.replies.now) (drop (c.loop-reply.reply-index + 1) c.args.replies.now)
      c.args.outlet.now c.loop-reply.outlet c.reply_one.new.outlet c.and-replied.ensures c.loop-reply.invariant.0
      (behind_it c.args.replies.now c.loop-reply.reply-index c.reply-item.result c.loop-reply-test.true c.reply-item.is)
      (ap (λ (s : Service). s.sessions) c.reply_one.ensures.service) c.reply_one.ensures.put c.reply_one.ensures.err,
  ap (λ (s : Service). s.waiting) c.reply_one.ensures.service ∙ c.loop-reply.invariant.1,
)

pub returns-clause-sessions : goal.returns-clause-sessions
returns-clause-sessions g c =
    (all_told g.O.Outlet.puts g.met.O.Outlet.rests g.met.O.Outlet.follows c.loop-reply.replied
    (told c.args.service.now.sessions (map reply_given c.args.replies.now)) c.loop-reply.service.sessions
    (drop c.loop-reply.reply-index c.args.replies.now) c.args.outlet.now c.loop-reply.outlet c.loop-reply.invariant.0
    (drop_all c.loop-reply.reply-index c.args.replies.now c.loop-reply-test.false)).0

pub returns-clause-waiting : goal.returns-clause-waiting
returns-clause-waiting g c = c.loop-reply.invariant.1

pub returns-clause-put : goal.returns-clause-put
returns-clause-put g c =
    on_ok g.O.Outlet.puts c.loop-reply.replied (told c.args.service.now.sessions (map reply_given c.args.replies.now)).prints c.args.outlet.now
    c.loop-reply.outlet
    (all_told g.O.Outlet.puts g.met.O.Outlet.rests g.met.O.Outlet.follows c.loop-reply.replied
    (told c.args.service.now.sessions (map reply_given c.args.replies.now)) c.loop-reply.service.sessions
    (drop c.loop-reply.reply-index c.args.replies.now) c.args.outlet.now c.loop-reply.outlet c.loop-reply.invariant.0
    (drop_all c.loop-reply.reply-index c.args.replies.now c.loop-reply-test.false)).1

pub returns-clause-err : goal.returns-clause-err
returns-clause-err g c =
    on_err g.O.Outlet.puts c.loop-reply.replied (told c.args.service.now.sessions (map reply_given c.args.replies.now)).prints c.args.outlet.now
    c.loop-reply.outlet
    (all_told g.O.Outlet.puts g.met.O.Outlet.rests g.met.O.Outlet.follows c.loop-reply.replied
    (told c.args.service.now.sessions (map reply_given c.args.replies.now)) c.loop-reply.service.sessions
    (drop c.loop-reply.reply-index c.args.replies.now) c.args.outlet.now c.loop-reply.outlet c.loop-reply.invariant.0
    (drop_all c.loop-reply.reply-index c.args.replies.now c.loop-reply-test.false)).1
