use Rattle.std.proofs.Common.{sym, subst, ◌∙◌}
use Rattle.sqlite.specs.Held.{state}
use Rattle.record_rows.specs.Group.{HasPutRows}
use Rattle.record_rows.proofs.GroupLemmas.{empty_is, has_put_nothing}
use Rattle.record_rows.proofs.group.put_slots.Goals as goal

pub returns-then-is_empty-clause-ok : goal.returns-then-is_empty-clause-ok
returns-then-is_empty-clause-ok g c clean =
    let s = state g.S.Store c.args.conn.now in
    let none = empty_is c.args.rows.now (sym c.is_empty.ensures ∙ c.if-is_empty.true) in
    subst (λ rows. HasPutRows rows s s) (sym none) (has_put_nothing s)
