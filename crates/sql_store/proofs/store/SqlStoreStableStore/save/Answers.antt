use Rattle.std.proofs.Common.{false}
use Rattle.sqlite.specs.Held.{state}
use Rattle.sql_store.specs.Orders.{layout_of}
use Rattle.sql_records.proofs.Exits.{leaves_saved}
use Rattle.sql_store.proofs.store.SqlStoreStableStore.save.Goals as goal

pub returns-in-Ok-clause-stop : goal.returns-in-Ok-clause-stop
returns-in-Ok-clause-stop g c =
    let old = state g.S.Store c.self.inside.conn in
    let new = state g.S.Store c.save_record.new.conn in
    let layout = layout_of c.self.inside.order in
    rw (← c.self.view_is, c.if-self.false) (leaves_saved layout old new false c.self.inside.failed c.self.inside.failed (c.self.invariant c.if-self.false) (g.met.S.Store.stays
    c.self.inside.conn.store) c.args.change.now c.save_record.ensures.survives)

pub returns-in-Err-clause-stop : goal.returns-in-Err-clause-stop
returns-in-Err-clause-stop g c =
    let old = state g.S.Store c.self.inside.conn in
    let new = state g.S.Store c.save_record.new.conn in
    let layout = layout_of c.self.inside.order in
    rw (← c.self.view_is, c.if-self.false) (leaves_saved layout old new c.settle.new.spent c.self.inside.failed c.settle.new.failed (c.self.invariant c.if-self.false) (g.met.S.Store.stays
    c.self.inside.conn.store) c.args.change.now c.save_record.ensures.survives)
