use Rattle.std.proofs.Common.{◌≡◌, ℕ, true, false, List, ap, sym, subst, ◌∙◌}
use Rattle.std.specs.Ordering.{nat_cmp}
use Rattle.std.specs.Map.{remove_entry, set_value}
use Rattle.std.specs.BTreeMap.{is_at}
use Rattle.sessions.specs.Session.{Session}
use Rattle.sessions.specs.States.{is_gone}
use Rattle.esme_service.specs.Hearing.{Goes, heeds}
use Rattle.esme_service.specs.Service.{Service}
use Rattle.esme_service.specs.Settings.{settings_of}
use Rattle.esme_service.proofs.Entries.{goes_there, gone_there, kept_there, on_err, set_same}
use Rattle.esme_service.proofs.Frames.{heeds_goes, heeds_so}
use Rattle.esme_service.proofs.service.Service.hear.Goals as goal
use Rattle.esme_service.proofs.service.Service.hear.Goals.{then-is_gone+in-Some-1, then-is_gone+in-None-1, else-is_gone}

pub returns-in_err-heard-clause-err : goal.returns-in_err-heard-clause-err
returns-in_err-heard-clause-err c =
    let connected = c.self.inside.sessions.entries in
    on_err c.from_residual.result _
    (ap (λ (sessions : List (ℕ × Session)). record { sessions = sessions; waiting = c.self.inside.waiting })
    ((c.get_mut.follows.holds c.hear_frame.new.session).0
    ∙ ap (set_value (is_at (nat_cmp c.args.number)) connected) c.in_err-heard.ensures.same
    ∙ set_same connected c.args.number c.in-Some.session.now (sym c.in-Some.ensures.value))
    ∙ c.self.view_is)

pub returns-clause-after : goal.returns-clause-after
returns-clause-after c =
    let connected = c.self.inside.sessions.entries in
    let left = c.hear_frame.new.session in
    let settings = settings_of c.args.config.now in
    let stands = sym c.in-Some.ensures.value in
    let so = heeds_so connected c.args.number c.in-Some.session.now left stands settings c.args.frame.now c.in_ok-heard.ensures.next in
    let is = ap is_gone (sym c.state.ensures.state) ∙ sym c.is_gone.ensures in
    let placed = (c.get_mut.follows.holds left).0 in
    let removed = λ (gone : c.is_gone.result ≡ true). ap (remove_entry (is_at (nat_cmp c.args.number))) placed ∙ gone_there connected c.args.number left (is ∙ gone) ∙ so in
    let kept = λ (stays : c.is_gone.result ≡ false). placed ∙ kept_there connected c.args.number c.in-Some.session.now left c.in-Some.ensures.ordered stands (is ∙ stays) ∙ so in
    let with_sessions : List (ℕ × Session) → Service = λ sessions. record { sessions = sessions; waiting = c.self.inside.waiting } in
    let viewed = ap (λ (s : Service). record s { sessions = (heeds settings s.sessions c.args.number c.args.frame.now).sessions }) c.self.view_is in
    elim c.if-is_gone.branch [
      | then-is_gone+in-Some-1 w ↦ w.self-is ∙ ap with_sessions (w.remove.ensures.entries ∙ removed w.if-is_gone.true) ∙ viewed
      | then-is_gone+in-None-1 w ↦ w.self-is ∙ ap with_sessions (w.remove.ensures.entries ∙ removed w.if-is_gone.true) ∙ viewed
      | else-is_gone w ↦ w.self-is ∙ ap with_sessions (kept w.if-is_gone.false) ∙ viewed
    ]

pub returns-clause-goes : goal.returns-clause-goes
returns-clause-goes c =
    let connected = c.self.inside.sessions.entries in
    let left = c.hear_frame.new.session in
    let settings = settings_of c.args.config.now in
    let goes = goes_there connected c.args.number left c.in-Some.ensures.ordered c.state.ensures.account in
    subst (λ (s : Service). Goes c.args.number (heeds settings s.sessions c.args.number c.args.frame.now)) c.self.view_is
    (heeds_goes connected c.args.number c.in-Some.session.now left (sym c.in-Some.ensures.value) settings c.args.frame.now c.in_ok-heard.ensures.next goes)
