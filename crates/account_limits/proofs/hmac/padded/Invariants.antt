use Rattle.std.proofs.Common.{◌≡◌, ℕ, ◌<◌, length, get_or, slice_index, bit_xor}
use Rattle.account_limits.proofs.hmac.padded.Given as goal

abbrev pub invariant-loop-place : goal.invariant-loop-place
invariant-loop-place l = record {
  long : length l.block ≡ 64;
  filled : (k : ℕ) → k < l.place → get_or l.block k 0 ≡ bit_xor l.octet (slice_index l.key k);
}
