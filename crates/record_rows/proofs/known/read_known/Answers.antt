use Rattle.std.proofs.Common.{IfOk, [], subst, arith}
use Rattle.sqlite.specs.State.{HasCleanDisk}
use Rattle.sqlite.specs.Held.{state}
use Rattle.record_rows.proofs.ReadLemmas.{not_shut, shown_unchanged}
use Rattle.record_rows.proofs.StateLemmas.{ours_is_settled, query_error_stands, stands_then, survives_probed, unchanged_stands}
use Rattle.record_rows.specs.Known.{AreShownKnown, LacksKnown, known_in}
use Rattle.record_rows.proofs.KnownReads.{strange_survives, told_known}
use Rattle.record_rows.proofs.KnownSchemas.{has_both}
use Rattle.record_rows.proofs.KnownTexts.{read_plain, read_text}
use Rattle.record_rows.proofs.known.read_known.Goals as goal

pub returns-in-Ok-clause-read : goal.returns-in-Ok-clause-read
returns-in-Ok-clause-read g c clean =
    told_known (state g.S.Store c.args.conn.now) (state g.S.Store c.query_all.new.self) c.in-Ok.shown.items c.known_rows.result (c.in-Ok.ensures.ok clean)
    (subst (λ rows. IfOk c.known_rows.result (λ v. AreShownKnown rows (known_in v.items))) c.as_slice.ensures.value c.known_rows.ensures.ok)

pub returns-in-Ok-clause-kept : goal.returns-in-Ok-clause-kept
returns-in-Ok-clause-kept g c clean not layout ours has =
    let old = state g.S.Store c.args.conn.now in
    let new = state g.S.Store c.query_all.new.self in
    let it = has_both layout old.now.schema ours.schema has in
    unchanged_stands old new (ours_is_settled layout old ours) (shown_unchanged read_text [] old new _ it.is
    (read_plain layout it.rest) c.in-Ok.shown.items (c.in-Ok.ensures.ok clean))

pub returns-in-Ok-clause-survives : goal.returns-in-Ok-clause-survives
returns-in-Ok-clause-survives g c = strange_survives (state g.S.Store c.args.conn.now) (state g.S.Store c.query_all.new.self) c.in-Ok.ensures.survives

pub returns-in-Err-clause-kept : goal.returns-in-Err-clause-kept
returns-in-Err-clause-kept g c clean not layout ours has =
    let old = state g.S.Store c.args.conn.now in
    let mid = state g.S.Store c.query_all.new.self in
    let new = state g.S.Store c.fault_after.new.conn in
    let early : HasCleanDisk mid = omega (arith, c.fault_after.ensures.survives.clean) in
    let probed = c.fault_after.ensures.open clean (not_shut c.fault_after.result not) in
    stands_then old mid new (query_error_stands read_text [] old mid c.in-Err.error (ours_is_settled layout old ours) probed.0.was_open
    (c.in-Err.ensures.err early)) probed

pub returns-in-Err-clause-survives : goal.returns-in-Err-clause-survives
returns-in-Err-clause-survives g c =
    let old = state g.S.Store c.args.conn.now in
    let mid = state g.S.Store c.query_all.new.self in
    let new = state g.S.Store c.fault_after.new.conn in
    survives_probed old mid new (LacksKnown old) (strange_survives old mid c.in-Err.ensures.survives) c.fault_after.ensures.survives
