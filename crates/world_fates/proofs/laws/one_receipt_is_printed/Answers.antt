use Rattle.world_fates.proofs.Standing.{one_receipt}
use Rattle.world_fates.proofs.laws.one_receipt_is_printed.Goals as goal

pub returns : goal.returns
returns c = one_receipt
