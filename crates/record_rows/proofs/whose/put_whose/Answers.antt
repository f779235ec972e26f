use Rattle.std.proofs.Common.{Ok, subst, arith}
use Rattle.sqlite.specs.State.{HasCleanDisk, Executes, Survives, CommitsBy}
use Rattle.sqlite.specs.Held.{state}
use Rattle.record_rows.specs.Whose.{put_whose_text, values_in}
use Rattle.record_rows.proofs.WhoseLemmas.{whose_bound}
use Rattle.record_rows.proofs.WhoseStates.{has_put_whose}
use Rattle.record_rows.proofs.StateLemmas.{error_stands, stands_then, survives_probed}
use Rattle.record_rows.proofs.whose.put_whose.Goals as goal

pub returns-in-Ok-clause-put : goal.returns-in-Ok-clause-put
returns-in-Ok-clause-put g c clean =
    let old = state g.S.Store c.args.conn.now in
    let new = state g.S.Store c.execute.new.self in
    let given = whose_bound c.args.row.now _ _ _ _ c.to_sql-cluster.ensures c.to_sql-node.ensures c.to_sql-nodes.ensures c.to_sql-at.ensures in
    has_put_whose c.args.row.now old new c.in-Ok.field-0 (subst (λ ps. Executes put_whose_text ps old new (Ok c.in-Ok.field-0)) given
    (c.in-Ok.ensures.runs clean))

pub returns-in-Ok-clause-ok : goal.returns-in-Ok-clause-ok
returns-in-Ok-clause-ok g c clean =
    let old = state g.S.Store c.args.conn.now in
    let new = state g.S.Store c.execute.new.self in
    let given = whose_bound c.args.row.now _ _ _ _ c.to_sql-cluster.ensures c.to_sql-node.ensures c.to_sql-nodes.ensures c.to_sql-at.ensures in
    (c.in-Ok.field-0, subst (λ ps. Executes put_whose_text ps old new (Ok c.in-Ok.field-0)) given (c.in-Ok.ensures.runs clean))

pub returns-in-Ok-clause-survives : goal.returns-in-Ok-clause-survives
returns-in-Ok-clause-survives g c =
    let old = state g.S.Store c.args.conn.now in
    let new = state g.S.Store c.execute.new.self in
    let given = whose_bound c.args.row.now _ _ _ _ c.to_sql-cluster.ensures c.to_sql-node.ensures c.to_sql-nodes.ensures c.to_sql-at.ensures in
    subst (λ ps. Survives old new (CommitsBy put_whose_text ps old)) given c.in-Ok.ensures.survives

pub returns-in-Err-clause-kept : goal.returns-in-Err-clause-kept
returns-in-Err-clause-kept g c clean not settled =
    let old = state g.S.Store c.args.conn.now in
    let mid = state g.S.Store c.execute.new.self in
    let new = state g.S.Store c.fault_after.new.conn in
    let early : HasCleanDisk mid = omega (arith, c.fault_after.ensures.survives.clean) in
    let probed = c.fault_after.ensures.open clean not in
    stands_then old mid new (error_stands put_whose_text _ old mid c.in-Err.error settled probed.0.was_open (c.in-Err.ensures.runs early)) probed

pub returns-in-Err-clause-survives : goal.returns-in-Err-clause-survives
returns-in-Err-clause-survives g c =
    let old = state g.S.Store c.args.conn.now in
    let mid = state g.S.Store c.execute.new.self in
    let new = state g.S.Store c.fault_after.new.conn in
    let given = whose_bound c.args.row.now _ _ _ _ c.to_sql-cluster.ensures c.to_sql-node.ensures c.to_sql-nodes.ensures c.to_sql-at.ensures in
    survives_probed old mid new (CommitsBy put_whose_text (values_in c.args.row.now) old)
    (subst (λ ps. Survives old mid (CommitsBy put_whose_text ps old)) given c.in-Err.ensures.survives) c.fault_after.ensures.survives
