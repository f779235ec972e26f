use Rattle.std.proofs.Common.{map, sym, subst, ◌∙◌}
use Rattle.sqlite.specs.Held.{state}
use Rattle.record_rows.specs.Content.{entry_of}
use Rattle.record_rows.specs.Group.{PutsRows}
use Rattle.record_rows.proofs.GroupLemmas.{empty_is}
use Rattle.record_rows.proofs.StateLemmas.{survives_as}
use Rattle.stable_store.specs.Stored.{afters}
use Rattle.sql_records.specs.Standing.{StandForEach}
use Rattle.sql_records.specs.Calls.{HasPutAll, PutsAll}
use Rattle.sql_records.proofs.CallLemmas.{has_put_all, has_put_none, on_put, puts_all}
use Rattle.sql_records.proofs.calls.save_records.Goals as goal

pub returns-then-is_empty-clause-ok : goal.returns-then-is_empty-clause-ok
returns-then-is_empty-clause-ok g c clean =
    let s = state g.S.Store c.args.conn.now in
    let none = empty_is c.args.changes.now (sym c.is_empty.ensures ∙ c.if-is_empty.true) in
    subst (λ changes. HasPutAll changes s s) (sym none) (has_put_none s)

pub returns-in-Ok-clause-ok : goal.returns-in-Ok-clause-ok
returns-in-Ok-clause-ok g c clean =
    on_put c.put_slots.result (has_put_all (state g.S.Store c.args.conn.now) (state g.S.Store c.put_slots.new.conn) c.deref.result.now c.args.changes.now
    (subst (λ rows. StandForEach (map entry_of rows) (afters c.args.changes.now)) (sym c.deref.ensures.value) c.in-Ok.ensures)) (c.put_slots.ensures.ok clean)

pub returns-in-Ok-clause-survives : goal.returns-in-Ok-clause-survives
returns-in-Ok-clause-survives g c =
    let old = state g.S.Store c.args.conn.now in
    survives_as old (state g.S.Store c.put_slots.new.conn) (PutsRows c.deref.result.now old) (PutsAll c.args.changes.now old) (λ db puts.
    puts_all old db c.deref.result.now c.args.changes.now (subst (λ rows. StandForEach (map entry_of rows) (afters c.args.changes.now))
    (sym c.deref.ensures.value) c.in-Ok.ensures) puts) c.put_slots.ensures.survives
