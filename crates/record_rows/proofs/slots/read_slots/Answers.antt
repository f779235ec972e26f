use Rattle.std.proofs.Common.{◌≡◌, Err, List}
use Rattle.record_rows.specs.declared.fault.ReadFault.TheVariants.{Damaged}
use Rattle.record_rows.specs.Content.{Entry, AreAscending}
use Rattle.record_rows.proofs.SlotOrder.{told_no_slots}
use Rattle.std.proofs.Common.{IfOk, map, [], subst, arith}
use Rattle.sqlite.specs.State.{HasCleanDisk}
use Rattle.sqlite.specs.Held.{state}
use Rattle.record_rows.specs.Content.{entry_of, AreShownAs}
use Rattle.record_rows.specs.Ours.{IsStrange}
use Rattle.record_rows.proofs.Texts.{read_slots_text, read_slots_plain}
use Rattle.record_rows.proofs.BesideLemmas.{told_beside}
use Rattle.record_rows.proofs.StateLemmas.{stands_then, unchanged_stands, query_error_stands, survives_probed, ours_is_settled}
use Rattle.record_rows.proofs.ReadLemmas.{shown_unchanged, strange_survives, not_shut}
use Rattle.record_rows.proofs.SlotReads.{told_slots}
use Rattle.record_rows.proofs.slots.read_slots.Goals as goal

pub returns-in-Ok-clause-read : goal.returns-in-Ok-clause-read
returns-in-Ok-clause-read g c clean =
    told_slots (state g.S.Store c.args.conn.now) (state g.S.Store c.query_all.new.self) c.in-Ok.shown.items c.ascending_rows.result (c.in-Ok.ensures.ok clean)
    (subst (λ rows. IfOk c.ascending_rows.result (λ v. AreShownAs rows
    (map entry_of v.items))) c.as_slice.ensures.value c.ascending_rows.ensures.ok) c.ascending_rows.ensures.ascending

pub returns-in-Ok-clause-kept : goal.returns-in-Ok-clause-kept
returns-in-Ok-clause-kept g c clean not layout ours =
    let old = state g.S.Store c.args.conn.now in
    let new = state g.S.Store c.query_all.new.self in
    let told = told_beside layout old.now.schema ours.schema in
    unchanged_stands old new (ours_is_settled layout old ours) (shown_unchanged read_slots_text [] old new _ told.2
    (read_slots_plain layout told.0) c.in-Ok.shown.items (c.in-Ok.ensures.ok clean))

pub returns-in-Ok-clause-survives : goal.returns-in-Ok-clause-survives
returns-in-Ok-clause-survives g c = strange_survives read_slots_text [] (state g.S.Store c.args.conn.now)
    (state g.S.Store c.query_all.new.self) read_slots_plain c.in-Ok.ensures.survives

pub returns-in-Err-clause-kept : goal.returns-in-Err-clause-kept
returns-in-Err-clause-kept g c clean not layout ours =
    let old = state g.S.Store c.args.conn.now in
    let mid = state g.S.Store c.query_all.new.self in
    let new = state g.S.Store c.fault_after.new.conn in
    let early : HasCleanDisk mid = omega (arith, c.fault_after.ensures.survives.clean) in
    let probed = c.fault_after.ensures.open clean (not_shut c.fault_after.result not) in
    stands_then old mid new (query_error_stands read_slots_text [] old mid c.in-Err.error (ours_is_settled layout old ours) probed.0.was_open
    (c.in-Err.ensures.err early)) probed

pub returns-in-Err-clause-survives : goal.returns-in-Err-clause-survives
returns-in-Err-clause-survives g c =
    let old = state g.S.Store c.args.conn.now in
    let mid = state g.S.Store c.query_all.new.self in
    let new = state g.S.Store c.fault_after.new.conn in
    survives_probed old mid new (IsStrange old)
    (strange_survives read_slots_text [] old mid read_slots_plain c.in-Err.ensures.survives) c.fault_after.ensures.survives

pub returns-in-Ok-clause-damaged : goal.returns-in-Ok-clause-damaged
returns-in-Ok-clause-damaged g c clean told =
    told_no_slots (state g.S.Store c.args.conn.now) (state g.S.Store c.query_all.new.self) c.in-Ok.shown.items c.ascending_rows.result
    (c.in-Ok.ensures.ok clean)
    (subst (λ rows. c.ascending_rows.result ≡ Err Damaged → (entries : List Entry) → AreShownAs rows entries → AreAscending entries → ⊥)
    c.as_slice.ensures.value c.ascending_rows.ensures.damaged) told
