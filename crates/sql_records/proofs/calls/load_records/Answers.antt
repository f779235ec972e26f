use Rattle.std.proofs.Common.{rules}
use Rattle.sqlite.specs.Held.{state}
use Rattle.sql_records.proofs.CallLemmas.{holds_none, if_read, none_found, records_found}
use Rattle.sql_records.proofs.calls.load_records.Goals as goal

pub returns-in_err-rows-clause-damaged : goal.returns-in_err-rows-clause-damaged
returns-in_err-rows-clause-damaged g c clean is = holds_none (state g.S.Store c.args.conn.now) (c.in_err-rows.ensures.damaged clean (search rules))

pub returns-clause-loaded : goal.returns-clause-loaded
returns-clause-loaded g c clean =
    let rows = c.in_ok-rows.rows.items in
    if_read c.records_of.result (λ records each layout. records_found (state g.S.Store c.args.conn.now) rows (c.in_ok-rows.ensures.read clean)
    layout records.items each) (rw c.deref.ensures.value at c.records_of.ensures.ok)

pub returns-clause-damaged : goal.returns-clause-damaged
returns-clause-damaged g c clean is =
    let row = rw c.deref.ensures.value at (c.records_of.ensures.damaged is) in
    none_found (state g.S.Store c.args.conn.now) c.in_ok-rows.rows.items (c.in_ok-rows.ensures.read clean) c.in_ok-rows.ensures.ascending
    row.0 row.1 row.2
