use Rattle.mc_parts.proofs.Majorities.{majorities_meet}
use Rattle.mc_parts.proofs.synod.majorities_meet.Goals as goal

pub returns : goal.returns
returns c = majorities_meet
