use Rattle.std.proofs.Common.{Some, sym, ap, ◌∙◌}
use Rattle.std.specs.Option.{option_copied}
use Rattle.esme_site.proofs.OnSession.{idle_on, mail_bound, puts_bound, puts_none, same_mail, settles_bound, stays_on, unbound_on}
use Rattle.esme_site.proofs.posting.post_on.Goals as goal

pub returns-then-not-has_receipts-clause-mail : goal.returns-then-not-has_receipts-clause-mail
returns-then-not-has_receipts-clause-mail g c =
    same_mail c.args.now c.args.service.now c.args.number
    (idle_on c.args.now c.args.service.now c.args.number c.has_receipts.result c.has_receipts.ensures c.if-not-has_receipts.true)

pub returns-then-not-has_receipts-clause-put : goal.returns-then-not-has_receipts-clause-put
returns-then-not-has_receipts-clause-put g c =
    puts_none c.args.now c.args.service.now c.args.number g.O.Outlet.puts c.args.outlet.now c.args.outlet.now
    (idle_on c.args.now c.args.service.now c.args.number c.has_receipts.result c.has_receipts.ensures c.if-not-has_receipts.true)
    (g.met.O.Outlet.rests c.args.outlet.now)

pub returns-in_default-clause-mail : goal.returns-in_default-clause-mail
returns-in_default-clause-mail g c =
    same_mail c.args.now c.args.service.now c.args.number
    (unbound_on c.args.now c.args.service.now c.args.number (sym (ap option_copied c.in_default.is) ∙ c.account.ensures))

pub returns-in_default-clause-put : goal.returns-in_default-clause-put
returns-in_default-clause-put g c =
    puts_none c.args.now c.args.service.now c.args.number g.O.Outlet.puts c.args.outlet.now c.args.outlet.now
    (unbound_on c.args.now c.args.service.now c.args.number (sym (ap option_copied c.in_default.is) ∙ c.account.ensures))
    (g.met.O.Outlet.rests c.args.outlet.now)

pub returns-in_err-account-clause-err : goal.returns-in_err-account-clause-err
returns-in_err-account-clause-err g c =
    stays_on c.args.now c.args.service.now c.args.number g.O.Outlet.puts c.args.outlet.now c.args.outlet.now c.from_residual.result
    (g.met.O.Outlet.rests c.args.outlet.now)

pub returns-clause-mail : goal.returns-clause-mail
returns-clause-mail g c =
    mail_bound c.args.now c.args.service.now c.args.number g.O.Outlet.puts c.args.outlet.now c.post_for.new.outlet c.post_for.result c.post_for.new.service
    c.in_ok-account.account (ap Some c.in_ok-account.ensures ∙ sym (ap option_copied c.in-Some.is) ∙ c.account.ensures) c.post_for.ensures.mail

pub returns-clause-put : goal.returns-clause-put
returns-clause-put g c =
    puts_bound c.args.now c.args.service.now c.args.number g.O.Outlet.puts c.args.outlet.now c.post_for.new.outlet c.post_for.result c.post_for.new.service
    c.in_ok-account.account (ap Some c.in_ok-account.ensures ∙ sym (ap option_copied c.in-Some.is) ∙ c.account.ensures) c.post_for.ensures.put

pub returns-clause-err : goal.returns-clause-err
returns-clause-err g c =
    settles_bound c.args.now c.args.service.now c.args.number g.O.Outlet.puts c.args.outlet.now c.post_for.new.outlet c.post_for.result c.post_for.new.service
    c.in_ok-account.account (ap Some c.in_ok-account.ensures ∙ sym (ap option_copied c.in-Some.is) ∙ c.account.ensures) c.post_for.ensures.mail
    c.post_for.ensures.err
