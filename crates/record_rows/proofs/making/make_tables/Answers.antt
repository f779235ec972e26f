use Rattle.sqlite.specs.Held.{state}
use Rattle.record_rows.specs.Added.{AddsBoth}
use Rattle.record_rows.proofs.StateLemmas.{survives_probed}
use Rattle.record_rows.proofs.making.make_tables.Goals as goal

pub returns-in-Err-clause-survives : goal.returns-in-Err-clause-survives
returns-in-Err-clause-survives g c =
    let old = state g.S.Store c.args.conn.now in
    survives_probed old (state g.S.Store c.make_both.new.conn) (state g.S.Store c.fault_after.new.conn) (AddsBoth old) c.in-Err.ensures.survives
    c.fault_after.ensures.survives
