use Rattle.std.proofs.Common.{slice_index, bit_xor, arith}
use Rattle.std.proofs.Math.ListN.{length-set}
use Rattle.std.proofs.lemmas.List.FromFn.{fill_by_all}
use Rattle.std.proofs.lemmas.List.Edits.{fill_by_more}
use Rattle.account_limits.specs.Hashing.{padded}
use Rattle.account_limits.proofs.hmac.padded.Goals as goal

pub loop-place-preserved : goal.loop-place-preserved
loop-place-preserved c = record {
  long = simp length-set c.loop-place.invariant.long;
  filled = rw c.octet_at.ensures
      (fill_by_more (λ k. bit_xor c.args.octet (slice_index c.args.key.now k)) c.loop-place.block c.loop-place.place 0 (omega arith) c.loop-place.invariant.filled);
}

pub returns : goal.returns
unfolding padded
returns c = fill_by_all (λ k. bit_xor c.args.octet (slice_index c.args.key.now k)) c.loop-place.block 64 0 c.loop-place.invariant.long
    (λ k l. c.loop-place.invariant.filled k (omega arith))
