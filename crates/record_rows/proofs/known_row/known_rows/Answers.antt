use Rattle.record_rows.proofs.KnownReads.{shown_more}
use Rattle.record_rows.proofs.known_row.known_rows.Goals as goal

pub loop-row-preserved : goal.loop-row-preserved
loop-row-preserved c =
    rw c.in_ok-push.ensures.items
    (shown_more c.args.shown.now c.loop-row.row-index c.row-item.result c.loop-row.rows.items c.in_ok-next.next c.loop-row-test.true c.row-item.is
    c.loop-row.invariant c.in_ok-next.ensures.ok)
