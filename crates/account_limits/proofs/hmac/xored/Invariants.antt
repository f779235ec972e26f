use Rattle.std.proofs.Common.{◌≡◌, ℕ, ◌<◌, length, get_or, slice_index, bit_xor}
use Rattle.account_limits.proofs.hmac.xored.Given as goal

abbrev pub invariant-loop-place : goal.invariant-loop-place
invariant-loop-place l = record {
  long : length l.sum ≡ 32;
  filled : (k : ℕ) → k < l.place → get_or l.sum k 0 ≡ bit_xor (slice_index l.one k) (slice_index l.other k);
}
