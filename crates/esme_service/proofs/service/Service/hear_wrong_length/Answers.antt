use Rattle.std.proofs.Common.{ℕ, List, ap, sym, subst, ◌∙◌}
use Rattle.std.specs.Ordering.{nat_cmp}
use Rattle.std.specs.Map.{remove_entry}
use Rattle.std.specs.BTreeMap.{is_at}
use Rattle.sessions.specs.Session.{Session}
use Rattle.sessions.specs.States.{is_gone}
use Rattle.esme_service.specs.Hearing.{Goes, ends_at}
use Rattle.esme_service.specs.Service.{Service}
use Rattle.esme_service.proofs.Entries.{goes_there, gone_there}
use Rattle.esme_service.proofs.Frames.{ends_goes, ends_so}
use Rattle.esme_service.proofs.service.Service.hear_wrong_length.Goals as goal
use Rattle.esme_service.proofs.service.Service.hear_wrong_length.Goals.{in-Some-1, in-None-2}

pub returns-then-is_gone-clause-after : goal.returns-then-is_gone-clause-after
returns-then-is_gone-clause-after c =
    let connected = c.self.inside.sessions.entries in
    let left = c.hear_wrong_length-heard.new.session in
    let gone = ap is_gone (sym c.state.ensures.state) ∙ sym c.is_gone.ensures ∙ c.if-is_gone.true in
    let removed =
    c.remove.ensures.entries
    ∙ ap (remove_entry (is_at (nat_cmp c.args.number))) (c.get_mut.follows.holds left).0
    ∙ gone_there connected c.args.number left gone
    ∙ ends_so connected c.args.number c.in-Some.session.now left (sym c.in-Some.ensures.value) c.hear_wrong_length-heard.ensures.next in
    let all =
    ap (λ (sessions : List (ℕ × Session)). record { sessions = sessions; waiting = c.self.inside.waiting }) removed
    ∙ ap (λ (s : Service). record s { sessions = (ends_at s.sessions c.args.number).sessions }) c.self.view_is in
    elim c.match-remove.branch [ in-Some-1 w ↦ w.self-is ∙ all | in-None-2 w ↦ w.self-is ∙ all ]

pub returns-then-is_gone-clause-goes : goal.returns-then-is_gone-clause-goes
returns-then-is_gone-clause-goes c =
    let connected = c.self.inside.sessions.entries in
    let left = c.hear_wrong_length-heard.new.session in
    let goes = goes_there connected c.args.number left c.in-Some.ensures.ordered c.state.ensures.account in
    subst (λ (s : Service). Goes c.args.number (ends_at s.sessions c.args.number)) c.self.view_is
    (ends_goes connected c.args.number c.in-Some.session.now left (sym c.in-Some.ensures.value) c.hear_wrong_length-heard.ensures.next goes)
