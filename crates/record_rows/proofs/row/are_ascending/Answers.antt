use Rattle.std.proofs.Common.{◌≡◌, true, arith}
use Rattle.std.proofs.lemmas.List.Sorted.{all_adjacent_more}
use Rattle.record_rows.specs.Content.{slot_of, is_below}
use Rattle.record_rows.proofs.ShownLemmas.{ascending_answer, neighbours, not_ascending}
use Rattle.record_rows.proofs.row.are_ascending.Goals as goal

pub returns : goal.returns
returns c = ascending_answer c.args.rows.now true (λ k d low. c.loop-at.invariant k d (omega arith))

pub loop-at-preserved : goal.loop-at-preserved
loop-at-preserved c =
    all_adjacent_more c.args.rows.now (λ x y. true ≡ is_below (slot_of x) (slot_of y)) c.loop-at.at c.loop-at.auto.at c.loop-at.invariant
    (neighbours c.args.rows.now c.loop-at.at c.index-rows-at.result c.index-rows-at-in-loop-at.result true c.loop-at.auto.at c.loop-at-test.true
    c.index-rows-at.is c.index-rows-at-in-loop-at.is c.if-not-is_before.ensures)

pub returns-then-not-is_before : goal.returns-then-not-is_before
returns-then-not-is_before c =
    not_ascending c.args.rows.now c.loop-at.at c.loop-at.auto.at c.loop-at-test.true
    (neighbours c.args.rows.now c.loop-at.at c.index-rows-at.result c.index-rows-at-in-loop-at.result _ c.loop-at.auto.at c.loop-at-test.true
    c.index-rows-at.is c.index-rows-at-in-loop-at.is c.if-not-is_before.ensures)
