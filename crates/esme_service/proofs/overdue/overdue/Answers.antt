use Rattle.std.proofs.lemmas.Bool.{false≢true}
use Rattle.esme_service.proofs.Overdues.{none_of_this, one_looked_at}
use Rattle.esme_service.proofs.overdue.overdue.Goals as goal

pub loop-number-preserved : goal.loop-number-preserved
loop-number-preserved c =
    one_looked_at c.args.sessions.now.entries c.loop-number._number-iterator c.next.new.self c.in-Some._number.now c.args.now c.in-Some.session.now
    c.loop-number.overdue.items c.pushed.result.now
    c.add_overdue.new.overdue.items c.loop-number.invariant c.in-Some.ensures.steps c.pushed.ensures.pushed c.in_ok-add_overdue.ensures.added

pub returns-in_err-add_overdue-clause-none : goal.returns-in_err-add_overdue-clause-none
returns-in_err-add_overdue-clause-none c = λ none.
    absurd (false≢true (c.in_err-add_overdue.ensures.none (none_of_this c.args.sessions.now.entries c.loop-number._number-iterator c.next.new.self c.in-Some._number.now c.args.now
    c.in-Some.session.now c.loop-number.overdue.items c.pushed.result.now c.loop-number.invariant c.in-Some.ensures.steps c.pushed.ensures.pushed none)))
