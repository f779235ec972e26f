use Rattle.std.proofs.Common.{◌≡◌, ℕ, ◌<◌, subst, ◌∙◌}
use Rattle.sql_records.proofs.NoteRows.{next_more, notes_more}
use Rattle.sql_records.proofs.note_row.notes_in.Goals as goal

pub loop-row-preserved : goal.loop-row-preserved
loop-row-preserved c =
    let same : c.number-id.result ≡ c.in_ok-next.next.vote.chain.id = c.number-id.ensures.value ∙ c.id.ensures in
    record {
      stand = rw c.in_ok-push.ensures.items
          (notes_more c.args.rows.now c.loop-row.row-index c.row-item.result c.loop-row.notes.items c.in_ok-next.next c.loop-row-test.true c.row-item.is
          c.loop-row.invariant.stand c.in_ok-next.ensures.ok);
      next = rw (c.in_ok-push.ensures.items, same) (next_more c.args.nodes c.loop-row.notes.items c.in_ok-next.next c.loop-row.last c.loop-row.invariant.next
          c.in_ok-next.ensures.nodes (subst (λ (id : ℕ). c.loop-row.last < id) same c.if-id-last.false));
    }
