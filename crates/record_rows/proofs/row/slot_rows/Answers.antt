use Rattle.std.proofs.Common.{rules}
use Rattle.record_rows.proofs.ShownLemmas.{shown_at, shown_more}
use Rattle.record_rows.proofs.row.slot_rows.Goals as goal

pub loop-row-preserved : goal.loop-row-preserved
loop-row-preserved c =
    rw c.in_ok-push.ensures.items
    (shown_more c.args.shown.now c.loop-row.row-index c.row-item.result c.loop-row.rows.items c.in_ok-next.next c.loop-row-test.true c.row-item.is
    c.loop-row.invariant c.in_ok-next.ensures.ok)

pub returns-in_err-next-clause-damaged : goal.returns-in_err-next-clause-damaged
returns-in_err-next-clause-damaged c is entries all =
    let hit = shown_at c.args.shown.now entries c.loop-row.row-index c.row-item.result all c.loop-row-test.true c.row-item.is in
    c.in_err-next.ensures.damaged (search rules) hit.0 hit.1
