use Rattle.script_text.proofs.ThreeNodes.{three_nodes_print}
use Rattle.script_text.proofs.laws.three_nodes_print.Goals as goal

pub returns : goal.returns
returns c = three_nodes_print
