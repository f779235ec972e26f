use Rattle.config_warnings.specs.Lines.{IsNone}
use Rattle.config_warnings.proofs.lines.tells.Goals as goal

pub returns-in-None : goal.returns-in-None
returns-in-None c = λ told.
    let none : IsNone c.args.octets.now = rw c.in-None.is at c.in_ok-document.ensures in
    none told.document told.is
