use Rattle.delivery.proofs.Dues.{due_is_one}
use Rattle.delivery.proofs.laws.one_decree_is_due.Goals as goal

pub returns : goal.returns
returns c = due_is_one
