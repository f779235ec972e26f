use Rattle.std.proofs.Common.{rules}
use Rattle.record_rows.specs.Content.{entry_of}
use Rattle.sql_records.proofs.Lists.{row_in, stand_more}
use Rattle.sql_records.proofs.row.records_of.Goals as goal

pub loop-row-preserved : goal.loop-row-preserved
loop-row-preserved c =
    rw c.in_ok-push.ensures.items
    (stand_more c.args.rows.now c.loop-row.row-index c.row-item.result c.loop-row.records.items c.in_ok-next.next c.loop-row-test.true c.row-item.is
    c.loop-row.invariant c.in_ok-next.ensures.ok)

pub returns-in_err-next-clause-damaged : goal.returns-in_err-next-clause-damaged
returns-in_err-next-clause-damaged c is = (
  entry_of c.row-item.result,
  row_in c.args.rows.now c.loop-row.row-index c.row-item.result c.loop-row-test.true c.row-item.is,
  c.in_err-next.ensures.damaged (search rules),
)
