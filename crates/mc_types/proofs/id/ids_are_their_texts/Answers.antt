use Rattle.mc_types.proofs.Texts.{ids_and_texts}
use Rattle.mc_types.proofs.id.ids_are_their_texts.Goals as goal

pub returns : goal.returns
returns c = ids_and_texts
