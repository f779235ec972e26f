use Rattle.std.proofs.Common.{◌≡◌, take, IsTrue}
use Rattle.sqlite.specs.State.{HasCleanDisk, KeepsCommit, Survives}
use Rattle.sqlite.specs.Held.{state}
use Rattle.record_rows.specs.Known.{HasPutInside}
use Rattle.record_rows.proofs.known.put_rows.Given as goal

abbrev pub invariant-loop-row : goal.invariant-loop-row
invariant-loop-row g l =
    let old = state g.S.Store l.fn.work.conn.now in
    let new = state g.S.Store l.work.conn.now in
    (l.work.conn.ghost_name ≡ l.fn.work.conn.ghost_name)
    × (HasCleanDisk new → IsTrue old.in_transaction → HasPutInside (take l.row-index l.rows) old new × KeepsCommit old new)
    × Survives old new (λ _. ⊥)
