use Rattle.sqlite.specs.Held.{state}
use Rattle.record_rows.specs.Ours.{PutsRow}
use Rattle.record_rows.proofs.StateLemmas.{survives_as}
use Rattle.sql_records.specs.Calls.{PutsRecord}
use Rattle.sql_records.proofs.CallLemmas.{has_put_record, on_put, puts_record}
use Rattle.sql_records.proofs.calls.save_record.Goals as goal

pub returns-in-Ok-clause-ok : goal.returns-in-Ok-clause-ok
returns-in-Ok-clause-ok g c clean =
    on_put c.put_slot.result (has_put_record (state g.S.Store c.args.conn.now) (state g.S.Store c.put_slot.new.conn) c.in-Ok.row c.args.kept.now
    c.in-Ok.ensures) (c.put_slot.ensures.ok clean)

pub returns-in-Ok-clause-survives : goal.returns-in-Ok-clause-survives
returns-in-Ok-clause-survives g c =
    let old = state g.S.Store c.args.conn.now in
    survives_as old (state g.S.Store c.put_slot.new.conn) (PutsRow c.in-Ok.row old) (PutsRecord c.args.kept.now old) (λ db puts.
    puts_record old db c.in-Ok.row c.args.kept.now c.in-Ok.ensures puts) c.put_slot.ensures.survives
