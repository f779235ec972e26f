use Rattle.std.proofs.Common.{length}
use Rattle.smpp_time.proofs.reading.+are_digits.Given as goal

abbrev pub decreases-are_digits : goal.decreases-are_digits
decreases-are_digits l = length l.octets.now
