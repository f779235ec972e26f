use Rattle.std.proofs.Common.{◌∙◌, arith}
use Rattle.sqlite.specs.State.{HasCleanDisk}
use Rattle.sqlite.specs.Held.{state}
use Rattle.sqlite.proofs.StateLemmas.{survives_then}
use Rattle.record_rows.proofs.GroupLemmas.{keeps_then}
use Rattle.record_rows.proofs.KnownStates.{put_more}
use Rattle.record_rows.proofs.known.put_rows.Goals as goal

pub loop-row-preserved : goal.loop-row-preserved
loop-row-preserved g c =
    let old = state g.S.Store c.args.work.now.conn.now in
    let mid = state g.S.Store c.loop-row.work.conn.now in
    let new = state g.S.Store c.put_inside.new.work.conn.now in (
      c.put_inside.ensures.same_reference ∙ c.loop-row.invariant.0,
      λ clean inside.
          let early : HasCleanDisk mid = omega (arith, c.put_inside.ensures.survives.clean) in
          let was = c.loop-row.invariant.1 early inside in
          let put = c.in_ok-put_inside.ensures.ok clean was.0.inside in (
            put_more c.args.rows.now c.loop-row.row-index c.row-item.result c.loop-row-test.true c.row-item.is old mid new was.0 put,
            keeps_then old mid new was.1 (c.put_inside.ensures.kept clean was.0.inside),
          ),
      survives_then old mid new (λ _. ⊥) (λ _. ⊥) (λ _. ⊥) (λ _ db none. none) (λ _ db none. none) c.loop-row.invariant.2 c.put_inside.ensures.survives,
    )
