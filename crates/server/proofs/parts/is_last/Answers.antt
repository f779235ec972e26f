use Rattle.server.proofs.parts.is_last.Goals as goal

pub returns : goal.returns
returns g c = λ goes_on. c.is_sound.ensures.0 c.if-not-is_sound.false
