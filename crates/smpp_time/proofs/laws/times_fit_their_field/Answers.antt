use Rattle.smpp_time.proofs.Written.{fits_field}
use Rattle.smpp_time.proofs.laws.times_fit_their_field.Goals as goal

pub returns : goal.returns
returns c = fits_field
