use Rattle.sql_records.proofs.Lists.{stand_beside}
use Rattle.sql_records.proofs.row.rows_of.Goals as goal

pub loop-change-preserved : goal.loop-change-preserved
loop-change-preserved c =
    rw c.in_ok-push.ensures.items
    (stand_beside c.loop-change.rows.items c.args.changes.now c.loop-change.change-index c.in_ok-next.next c.change-item.result c.loop-change-test.true
    c.change-item.is c.loop-change.invariant c.in_ok-next.ensures)
