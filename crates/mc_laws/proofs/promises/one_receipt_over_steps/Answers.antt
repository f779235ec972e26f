use Rattle.mc_laws.proofs.step.OneReceipt.{one_receipt}
use Rattle.mc_laws.proofs.promises.one_receipt_over_steps.Goals as goal

pub returns : goal.returns
returns c = one_receipt
