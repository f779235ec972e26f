use Rattle.smpp_time.proofs.Written.{written_said}
use Rattle.smpp_time.proofs.laws.what_is_written_is_read.Goals as goal

pub returns : goal.returns
returns c = written_said
