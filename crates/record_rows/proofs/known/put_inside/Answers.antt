use Rattle.std.proofs.Common.{Ok, Err, subst}
use Rattle.sqlite.specs.State.{ExecutesInside}
use Rattle.sqlite.specs.Held.{state}
use Rattle.record_rows.proofs.KnownTexts.{put_text}
use Rattle.record_rows.proofs.GroupLemmas.{keeps_inside}
use Rattle.record_rows.proofs.KnownStates.{bound_are, one_put}
use Rattle.record_rows.proofs.known.put_inside.Goals as goal

pub returns-in-Ok-clause-ok : goal.returns-in-Ok-clause-ok
returns-in-Ok-clause-ok g c clean inside =
    let old = state g.S.Store c.args.work.now.conn.now in
    let new = state g.S.Store c.execute.new.self.conn.now in
    let given = bound_are c.args.row.now _ _ _ _ _ c.to_sql-id.ensures c.to_sql-place.ensures c.to_sql-voted.ensures c.to_sql-voters.ensures
    c.to_sql-chain.ensures in
    one_put c.args.row.now old new c.in-Ok.field-0 (subst (λ ps. ExecutesInside 0 put_text ps old new (Ok c.in-Ok.field-0)) given
    (c.in-Ok.ensures.runs clean inside))

pub returns-in-Ok-clause-kept : goal.returns-in-Ok-clause-kept
returns-in-Ok-clause-kept g c clean inside =
    keeps_inside put_text _ (state g.S.Store c.args.work.now.conn.now) (state g.S.Store c.execute.new.self.conn.now) (Ok c.in-Ok.field-0)
    (c.in-Ok.ensures.runs clean inside)

pub returns-in-Err-clause-kept : goal.returns-in-Err-clause-kept
returns-in-Err-clause-kept g c clean inside =
    keeps_inside put_text _ (state g.S.Store c.args.work.now.conn.now) (state g.S.Store c.execute.new.self.conn.now) (Err c.in-Err.error)
    (c.in-Err.ensures.runs clean inside)
