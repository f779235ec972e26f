use Rattle.std.proofs.Common.{◌≡◌, ℕ, true, false, ◌||◌, ◌==◌, sym, subst}
use Rattle.mc_types.specs.Nodes.{has}
use Rattle.sql_records.proofs.VoterSets.{all_done, one_more, passed_by}
use Rattle.sql_records.proofs.voters.set_in.Goals as goal
use Rattle.sql_records.proofs.voters.set_in.Goals.{then-has_bit, else-has_bit}

pub loop-number-preserved : goal.loop-number-preserved
loop-number-preserved c = elim c.if-has_bit.branch [
  | then-has_bit w ↦ rw w.set-is (one_more c.loop-number.set _ c.args.bits c.loop-number.number c.loop-number.invariant
      (subst (λ (n : ℕ). has c.args.bits n ≡ true) c.of-node.ensures (sym w.if-has_bit.ensures))
      (subst (λ (n : ℕ). (other : ℕ) → has w.add.new.self other ≡ (has c.loop-number.set other || other == n)) c.of-node.ensures w.add.ensures))
  | else-has_bit w ↦ rw w.set-is (passed_by c.loop-number.set c.args.bits c.loop-number.number c.loop-number.invariant
      (subst (λ (n : ℕ). has c.args.bits n ≡ false) c.of-node.ensures (sym w.if-has_bit.ensures)))
]

pub returns : goal.returns
returns c = all_done c.before.loop-number.set c.args.bits c.loop-number.number c.loop-number-test.false c.loop-number.invariant
