use Rattle.mc_laws.proofs.invariant.Deeds.{removes}
use Rattle.mc_laws.proofs.runs.a_cancelled_message_is_deleted.Goals as goal

pub returns : goal.returns
returns c = removes
