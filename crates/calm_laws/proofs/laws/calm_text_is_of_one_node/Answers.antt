use Rattle.calm_laws.proofs.Keeping.{calm_text}
use Rattle.calm_laws.proofs.laws.calm_text_is_of_one_node.Goals as goal

pub returns : goal.returns
returns c = calm_text
