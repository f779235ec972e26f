use Rattle.sqlite.specs.Held.{state}
use Rattle.noting_store.specs.Noted.{noted_in}
use Rattle.sql_records.proofs.NoteExits.{noted_only}
use Rattle.sql_store.specs.Orders.{layout_of}
use Rattle.sql_store.proofs.store.SqlStoreNotingStore.note.Goals as goal

pub returns-in-Ok-clause-noted : goal.returns-in-Ok-clause-noted
returns-in-Ok-clause-noted g c =
    let old = state g.S.Store c.self.inside.conn in
    let new = state g.S.Store c.save_notes.new.conn in
    rw (← c.self.view_is) (noted_only (layout_of c.self.inside.order) old new (c.self.invariant c.if-self.false)
    (g.met.S.Store.stays c.self.inside.conn.store) (noted_in c.args.notes.now) c.save_notes.ensures.survives)

pub returns-in-Err-clause-noted : goal.returns-in-Err-clause-noted
returns-in-Err-clause-noted g c =
    let old = state g.S.Store c.self.inside.conn in
    let new = state g.S.Store c.save_notes.new.conn in
    rw (← c.self.view_is) (noted_only (layout_of c.self.inside.order) old new (c.self.invariant c.if-self.false)
    (g.met.S.Store.stays c.self.inside.conn.store) (noted_in c.args.notes.now) c.save_notes.ensures.survives)
