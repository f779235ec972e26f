use Rattle.std.proofs.Common.{[], arith}
use Rattle.sqlite.specs.State.{HasCleanDisk, CommitsBy}
use Rattle.sqlite.specs.Held.{state}
use Rattle.record_rows.specs.Added.{AddsSlots}
use Rattle.record_rows.proofs.CreateLemmas.{slots_text, has_slots, may_add_slots}
use Rattle.record_rows.proofs.StateLemmas.{error_stands, stands_then, survives_as, survives_probed}
use Rattle.record_rows.proofs.adding.add_slots.Goals as goal

pub returns-in-Ok-clause-ok : goal.returns-in-Ok-clause-ok
returns-in-Ok-clause-ok g c clean = has_slots (state g.S.Store c.args.conn.now) (state g.S.Store c.execute.new.self) c.in-Ok.field-0
    (c.in-Ok.ensures.runs clean)

pub returns-in-Ok-clause-survives : goal.returns-in-Ok-clause-survives
returns-in-Ok-clause-survives g c =
    let old = state g.S.Store c.args.conn.now in
    let new = state g.S.Store c.execute.new.self in
    survives_as old new (CommitsBy slots_text [] old) (AddsSlots old) (may_add_slots old) c.in-Ok.ensures.survives

pub returns-in-Err-clause-kept : goal.returns-in-Err-clause-kept
returns-in-Err-clause-kept g c clean not settled =
    let old = state g.S.Store c.args.conn.now in
    let mid = state g.S.Store c.execute.new.self in
    let new = state g.S.Store c.fault_after.new.conn in
    let early : HasCleanDisk mid = omega (arith, c.fault_after.ensures.survives.clean) in
    let probed = c.fault_after.ensures.open clean not in
    stands_then old mid new (error_stands slots_text [] old mid c.in-Err.error settled probed.0.was_open (c.in-Err.ensures.runs early)) probed

pub returns-in-Err-clause-survives : goal.returns-in-Err-clause-survives
returns-in-Err-clause-survives g c =
    let old = state g.S.Store c.args.conn.now in
    let mid = state g.S.Store c.execute.new.self in
    let new = state g.S.Store c.fault_after.new.conn in
    survives_probed old mid new (AddsSlots old) (survives_as old mid (CommitsBy slots_text [] old) (AddsSlots old)
    (may_add_slots old) c.in-Err.ensures.survives)
    c.fault_after.ensures.survives
