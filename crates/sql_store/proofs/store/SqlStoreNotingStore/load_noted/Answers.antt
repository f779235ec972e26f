use Rattle.std.proofs.Common.{arith}
use Rattle.sqlite.specs.Held.{state}
use Rattle.sqlite.specs.State.{HasCleanDisk}
use Rattle.sql_records.proofs.NoteExits.{is_known}
use Rattle.sql_store.specs.Orders.{layout_of}
use Rattle.sql_store.proofs.store.SqlStoreNotingStore.load_noted.Goals as goal

pub returns-in-Ok-clause-found : goal.returns-in-Ok-clause-found
returns-in-Ok-clause-found g c =
    let old = state g.S.Store c.self.inside.conn in
    let new = state g.S.Store c.load_notes.new.conn in
    let layout = layout_of c.self.inside.order in
    let kept = c.self.invariant c.if-self.false in
    rw (← c.self.view_is) (λ clean n among.
    let early : HasCleanDisk old = omega (arith, c.load_notes.ensures.survives.clean, clean) in
    is_known layout old new kept (g.met.S.Store.stays c.self.inside.conn.store) c.load_notes.ensures.survives clean n
    (c.in-Ok.ensures.found clean layout (kept early) n among))
