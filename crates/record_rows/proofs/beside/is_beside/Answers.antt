use Rattle.std.proofs.Common.{inl, inr, refl, arith}
use Rattle.record_rows.proofs.BesideLemmas.{beside_is, if_beside}
use Rattle.record_rows.proofs.TableLemmas.{refuted}
use Rattle.record_rows.specs.Beside.{gone, known, whose}
use Rattle.record_rows.proofs.beside.is_beside.Goals as goal

pub returns-then-branch : goal.returns-then-branch
returns-then-branch c = (
  λ _. beside_is c.args.table.now whose (inl refl) (omega arith) (c.in_ok-is_whose.ensures.0 c.if-branch.true),
  λ _. refl,
)

pub returns-then-branch-2 : goal.returns-then-branch-2
returns-then-branch-2 c = (
  λ _. beside_is c.args.table.now known (inr (inl refl)) (omega arith) (c.in_ok-is_known.ensures.0 c.if-branch-2.true),
  λ _. refl,
)

pub returns-then-branch-3 : goal.returns-then-branch-3
returns-then-branch-3 c = (
  λ _. beside_is c.args.table.now gone (inr (inr (inl refl))) (omega arith) (c.in_ok-is_gone.ensures.0 c.if-branch-3.true),
  λ _. refl,
)

pub returns : goal.returns
returns c =
    if_beside c.is_ended.result c.args.table.now (omega arith) (refuted c.in_ok-is_whose.field-0 c.if-branch.false c.in_ok-is_whose.ensures)
    (refuted c.in_ok-is_known.field-0 c.if-branch-2.false c.in_ok-is_known.ensures) (refuted c.in_ok-is_gone.field-0 c.if-branch-3.false
    c.in_ok-is_gone.ensures) c.is_ended.ensures
