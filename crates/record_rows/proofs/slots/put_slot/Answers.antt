use Rattle.std.proofs.Common.{Ok, subst, arith}
use Rattle.sqlite.specs.State.{HasCleanDisk, Executes, Survives, CommitsBy}
use Rattle.sqlite.specs.Held.{state}
use Rattle.record_rows.specs.Ours.{PutsRow}
use Rattle.record_rows.proofs.Texts.{put_text}
use Rattle.record_rows.proofs.PutLemmas.{params_of}
use Rattle.record_rows.proofs.PutStates.{bound_are, has_put, puts_row}
use Rattle.record_rows.proofs.StateLemmas.{error_stands, stands_then, survives_as, survives_probed}
use Rattle.record_rows.proofs.slots.put_slot.Goals as goal

pub returns-in-Ok-clause-ok : goal.returns-in-Ok-clause-ok
returns-in-Ok-clause-ok g c clean =
    let old = state g.S.Store c.args.conn.now in
    let new = state g.S.Store c.execute.new.self in
    let given = bound_are c.args.row.now _ _ _ _ _ c.to_sql-id.ensures c.to_sql-place.ensures c.to_sql-promised.ensures c.to_sql-voted.ensures
    c.to_sql-chain.ensures in
    has_put c.args.row.now old new c.in-Ok.field-0 (subst (λ ps. Executes put_text ps old new (Ok c.in-Ok.field-0)) given (c.in-Ok.ensures.runs clean))

pub returns-in-Ok-clause-survives : goal.returns-in-Ok-clause-survives
returns-in-Ok-clause-survives g c =
    let old = state g.S.Store c.args.conn.now in
    let new = state g.S.Store c.execute.new.self in
    let given = bound_are c.args.row.now _ _ _ _ _ c.to_sql-id.ensures c.to_sql-place.ensures c.to_sql-promised.ensures c.to_sql-voted.ensures
    c.to_sql-chain.ensures in
    survives_as old new (CommitsBy put_text (params_of c.args.row.now) old) (PutsRow c.args.row.now old) (puts_row c.args.row.now old)
    (subst (λ ps. Survives old new (CommitsBy put_text ps old)) given c.in-Ok.ensures.survives)

pub returns-in-Err-clause-kept : goal.returns-in-Err-clause-kept
returns-in-Err-clause-kept g c clean not settled =
    let old = state g.S.Store c.args.conn.now in
    let mid = state g.S.Store c.execute.new.self in
    let new = state g.S.Store c.fault_after.new.conn in
    let early : HasCleanDisk mid = omega (arith, c.fault_after.ensures.survives.clean) in
    let probed = c.fault_after.ensures.open clean not in
    stands_then old mid new (error_stands put_text _ old mid c.in-Err.error settled probed.0.was_open (c.in-Err.ensures.runs early)) probed

pub returns-in-Err-clause-survives : goal.returns-in-Err-clause-survives
returns-in-Err-clause-survives g c =
    let old = state g.S.Store c.args.conn.now in
    let mid = state g.S.Store c.execute.new.self in
    let new = state g.S.Store c.fault_after.new.conn in
    let given = bound_are c.args.row.now _ _ _ _ _ c.to_sql-id.ensures c.to_sql-place.ensures c.to_sql-promised.ensures c.to_sql-voted.ensures
    c.to_sql-chain.ensures in
    let left = survives_as old mid (CommitsBy put_text (params_of c.args.row.now) old) (PutsRow c.args.row.now old) (puts_row c.args.row.now old)
    (subst (λ ps. Survives old mid (CommitsBy put_text ps old)) given c.in-Err.ensures.survives) in
    survives_probed old mid new (PutsRow c.args.row.now old) left c.fault_after.ensures.survives
