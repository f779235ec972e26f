use Rattle.std.proofs.Common.{sym, subst, ◌∙◌}
use Rattle.sqlite.specs.Held.{state}
use Rattle.record_rows.specs.Known.{HasPutKnown}
use Rattle.record_rows.proofs.GroupLemmas.{empty_is}
use Rattle.record_rows.proofs.KnownStates.{has_put_nothing}
use Rattle.record_rows.proofs.known.put_known.Goals as goal

pub returns-then-is_empty-clause-ok : goal.returns-then-is_empty-clause-ok
returns-then-is_empty-clause-ok g c clean =
    let s = state g.S.Store c.args.conn.now in
    let none = empty_is c.args.rows.now (sym c.is_empty.ensures ∙ c.if-is_empty.true) in
    subst (λ rows. HasPutKnown rows s s) (sym none) (has_put_nothing s)
