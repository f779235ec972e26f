use Rattle.world_fates.proofs.Fates.{one_fate}
use Rattle.world_fates.proofs.laws.one_fate_is_printed_by_all_nodes.Goals as goal

pub returns : goal.returns
returns c = one_fate
