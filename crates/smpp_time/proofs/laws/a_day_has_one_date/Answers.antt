use Rattle.smpp_time.proofs.Years.{date_is_of}
use Rattle.smpp_time.proofs.laws.a_day_has_one_date.Goals as goal

pub returns : goal.returns
returns c = date_is_of
