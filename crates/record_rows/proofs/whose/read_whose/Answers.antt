use Rattle.sqlite.specs.Held.{state}
use Rattle.record_rows.proofs.WhoseReads.{if_found}
use Rattle.record_rows.proofs.whose.read_whose.Goals as goal

pub returns-clause-found : goal.returns-clause-found
returns-clause-found g c clean =
    if_found (state g.S.Store c.args.conn.now) (state g.S.Store c.shown_whose.new.conn) c.shown_whose.result (c.shown_whose.ensures clean)
