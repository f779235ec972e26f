use Rattle.std.proofs.Common.{◌≡◌, false, true}
use Rattle.delivery.proofs.Dues.{none_due}
use Rattle.delivery.proofs.rules.due.Goals.{else-up-via-then-up+else-may_be_due-3, else-up-via-else-up}
use Rattle.delivery.proofs.rules.due.Goals as goal

pub returns-else-up : goal.returns-else-up
returns-else-up c = λ due fits.
    none_due c.args.chain.now.decrees c.args.now c.args.up c.next_attempt.result
    (λ may. let found : false ≡ true = c.if-may_be_due.ensures.1 may in cc)
    (λ may. let found : false ≡ true = c.if-may_be_due-2.ensures.1 may in cc)
    (λ up may. elim c.else-up.branch [
      | else-up-via-then-up+else-may_be_due-3 w ↦ let found : false ≡ true = w.if-may_be_due-3.ensures.1 may in cc
      | else-up-via-else-up w ↦ cc
    ])
    c.next_attempt.ensures
    due fits
