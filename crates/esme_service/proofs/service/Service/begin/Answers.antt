use Rattle.std.proofs.Common.{ℕ, List, ap, sym, ◌∙◌}
use Rattle.std.specs.Ordering.{nat_cmp}
use Rattle.std.specs.BTreeMap.{insert_entry}
use Rattle.sessions.specs.Session.{Session}
use Rattle.sessions.specs.Steps.{opened}
use Rattle.esme_service.specs.Service.{Service}
use Rattle.esme_service.specs.Sessions.{put_at, session_in}
use Rattle.esme_service.proofs.Entries.{begun_before, begun_now}
use Rattle.esme_service.proofs.service.Service.begin.Goals as goal

pub returns-in-Some-clause-begun : goal.returns-in-Some-clause-begun
returns-in-Some-clause-begun c =
    ap (λ (sessions : List (ℕ × Session)). record { sessions = sessions; waiting = c.self.inside.waiting })
    ((c.get_mut.follows.holds c.in-Some.session.now).0
    ∙ begun_before c.self.inside.sessions.entries c.args.number c.in-Some.session.now c.in-Some.ensures.ordered (sym c.in-Some.ensures.value))
    ∙ ap (λ (s : Service). record s { sessions = put_at s.sessions c.args.number (session_in s.sessions c.args.number) }) c.self.view_is

pub returns-clause-begun : goal.returns-clause-begun
returns-clause-begun c =
    ap (λ (sessions : List (ℕ × Session)). record { sessions = sessions; waiting = c.self.inside.waiting })
    (c.in_ok-insert.ensures.entries
    ∙ ap (λ (s : Session). insert_entry nat_cmp c.get_mut.follows.lender-at-none.entries c.args.number s) c.in_ok-session.ensures
    ∙ ap (λ (entries : List (ℕ × Session)). insert_entry nat_cmp entries c.args.number opened) (λ i. (c.get_mut.follows.holds-at-none i).entries)
    ∙ begun_now c.self.inside.sessions.entries c.args.number (sym c.in_default.ensures.value))
    ∙ ap (λ (s : Service). record s { sessions = put_at s.sessions c.args.number (session_in s.sessions c.args.number) }) c.self.view_is
