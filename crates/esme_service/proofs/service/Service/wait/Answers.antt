use Rattle.std.proofs.Common.{ℕ, List, Option, ap, sym, ◌∙◌}
use Rattle.sessions.specs.Session.{Session}
use Rattle.esme_service.specs.Sessions.{waits_at}
use Rattle.esme_service.proofs.Entries.{waits_not}
use Rattle.esme_service.proofs.service.Service.wait.Goals as goal

pub returns-in_default : goal.returns-in_default
returns-in_default c =
    let old = c.args.self.now in
    sym (ap (λ (ticket : Option ℕ). record old { sessions = waits_at old.sessions c.args.number c.args.asked.requested c.args.asked.sequence ticket })
    c.in_default.is
    ∙ ap (λ (sessions : List (ℕ × Session)). record old { sessions = sessions })
    (waits_not old.sessions c.args.number c.args.asked.requested c.args.asked.sequence))
