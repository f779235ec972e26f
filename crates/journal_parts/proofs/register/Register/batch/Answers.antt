use Rattle.std.proofs.Common.{sym, subst, ◌∙◌, ap, length, arith}
use Rattle.journal_parts.specs.Batches.{Covers}
use Rattle.journal_parts.specs.declared.batch.Batch.{Batch}
use Rattle.journal_parts.proofs.Batches.{counts_more, covers_more}
use Rattle.journal_parts.proofs.register.Register.batch.Goals.{else-loop-number-test, then-loop-number-test+in_default, then-loop-number-test+in-Some+in_ok-add+then-not-branch, then-loop-number-test+in-Some+in_ok-add+else-not-branch+else-number-number-end}
use Rattle.journal_parts.proofs.register.Register.batch.Goals as goal

pub loop-number-init : goal.loop-number-init
loop-number-init g c =
    let saving = ap length c.none-batch.ensures.saving in
    let others = ap length c.none-batch.ensures.others in (
      λ number above below. absurd (omega (arith, above, below, saving, others)),
      omega (arith, saving, others),
    )

pub loop-number-preserved : goal.loop-number-preserved
loop-number-preserved g c =
    let adds = c.in_ok-add.ensures.added c.if-not-branch.false in (
      covers_more c.args.first c.loop-number.number _ _ _ _ c.loop-number.invariant.0 c.loop-number.invariant.1 adds,
      counts_more c.args.first c.loop-number.number _ _ _ _ c.loop-number.invariant.1 adds,
    )

pub returns : goal.returns
returns g c =
    let covers = c.loop-number.invariant.0 in
    let to = λ (b : Batch). Covers c.args.first b.saving.items b.others.items in
    elim c.loop-number-test.branch [
      | else-loop-number-test w ↦ subst to (sym w.batch-is) covers
      | then-loop-number-test+in_default w ↦ subst to (sym w.batch-is) covers
      | then-loop-number-test+in-Some+in_ok-add+then-not-branch w ↦ subst to (sym (w.batch-is ∙ w.in_ok-add.ensures.stays w.if-not-branch.true)) covers
      | then-loop-number-test+in-Some+in_ok-add+else-not-branch+else-number-number-end w ↦ subst to (sym w.batch-is)
          (covers_more c.args.first c.loop-number.number _ _ _ _ covers c.loop-number.invariant.1 (w.in_ok-add.ensures.added w.if-not-branch.false))
    ]
