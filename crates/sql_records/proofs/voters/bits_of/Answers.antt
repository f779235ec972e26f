use Rattle.std.proofs.Common.{◌≡◌, ℕ, true, false, ◌||◌, ◌==◌, sym, subst}
use Rattle.mc_types.specs.Nodes.{has}
use Rattle.sql_records.proofs.VoterSets.{all_done, one_more, passed_by}
use Rattle.sql_records.proofs.voters.bits_of.Goals as goal
use Rattle.sql_records.proofs.voters.bits_of.Goals.{then-has, else-has}

pub loop-number-preserved : goal.loop-number-preserved
loop-number-preserved c = elim c.if-has.branch [
  | then-has w ↦ rw w.bits-is (one_more c.loop-number.bits w.with_bit-bits.result c.args.set c.loop-number.number c.loop-number.invariant
      (subst (λ (n : ℕ). has c.args.set n ≡ true) c.of-node.ensures (sym w.if-has.ensures))
      (subst (λ (n : ℕ). (other : ℕ) → has w.with_bit-bits.result other ≡ (has c.loop-number.bits other || other == n)) c.of-node.ensures
      w.with_bit-bits.ensures))
  | else-has w ↦ rw w.bits-is (passed_by c.loop-number.bits c.args.set c.loop-number.number c.loop-number.invariant
      (subst (λ (n : ℕ). has c.args.set n ≡ false) c.of-node.ensures (sym w.if-has.ensures)))
]

pub returns : goal.returns
returns c = all_done c.before.loop-number.bits c.args.set c.loop-number.number c.loop-number-test.false c.loop-number.invariant
