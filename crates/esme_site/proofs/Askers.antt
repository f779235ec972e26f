-- A request is heard only on a session that has an account.
use Rattle.std.proofs.Common.{◌≡◌, ℕ, Bool, true, false, cond, List, Option, Some, None, Result, Ok, Err, refl, sym, ap, ◌∙◌, subst}
use Rattle.std.specs.BTreeMap.{is_at}
use Rattle.std.specs.Map.{remove_entry}
use Rattle.std.specs.Ordering.{nat_cmp}
use Rattle.std.specs.Prelude.{is_some}
use Rattle.node_model.proofs.Places.{here}
use Rattle.pdu_bodies.specs.declared.pdu.Pdu.{Pdu}
use Rattle.pdu_codec.specs.Pdu.{read_pdu}
use Rattle.pdu_fields.specs.declared.fault.PduFault.{PduFault}
use Rattle.desk.specs.declared.request.Request.{Request}
use Rattle.sessions.specs.Session.{Session}
use Rattle.sessions.specs.States.{is_gone}
use Rattle.sessions.specs.Steps.{Done, on_wrong_length}
use Rattle.sessions.specs.declared.reaction.Reaction.{Reaction}
use Rattle.sessions.specs.declared.reaction.Reaction.TheVariants.{Nothing, Respond, Leave, Ask, Answered}
use Rattle.sessions.specs.declared.requested.Requested.{Requested}
use Rattle.esme_service.specs.Hearing.{Goes, GoesIf, asked_by, done_by, ends_at, ends_if, heard_in, heard_of, heeds, heeds_if, request_of, told_by}
use Rattle.esme_service.specs.Pushes.{session_at}
use Rattle.esme_service.specs.Service.{Service}
use Rattle.esme_service.specs.Sessions.{account_at, account_of, kept_at, put_at}
use Rattle.esme_service.specs.Settings.{Settings}
use Rattle.esme_service.specs.declared.heard.Heard.{Heard}
use Rattle.esme_site.specs.Asking.{HasAsker}

-- ---- the session of a number

pub put_so : (sessions : List (ℕ × Session)) (number : ℕ) (session : Session) → is_gone session.state ≡ false
    → kept_at sessions number session ≡ put_at sessions number session
put_so sessions number session stays =
    ap (λ (gone : Bool). cond gone (remove_entry (is_at (nat_cmp number)) sessions) (put_at sessions number session)) stays

pub found_put : (sessions : List (ℕ × Session)) (number : ℕ) (session : Session) → session_at (put_at sessions number session) number ≡ Some session
found_put sessions number session = here number session (remove_entry (is_at (nat_cmp number)) sessions)

-- a session of the account of another one, and gone if that is
pub record IsLike (one other : Session) : Type 0 where
  pub gone : is_gone one.state ≡ is_gone other.state
  pub account : one.account ≡ other.account

pub itself_like : (session : Session) → IsLike session session
itself_like session = record { gone = refl; account = refl }

-- its account is that of the session of this number, if one is connected still
pub account_so : (sessions : List (ℕ × Session)) (number : ℕ) (served session : Session) → IsLike served session
    → GoesIf (kept_at sessions number session) number (Some session)
    → account_at (kept_at sessions number served) number ≡ served.account
account_so sessions number served session like goes = by_gone (is_gone served.state) refl
  where
    by_gone : (gone : Bool) → is_gone served.state ≡ gone → account_at (kept_at sessions number served) number ≡ served.account
    by_gone false is =
        ap (λ (left : List (ℕ × Session)). account_at left number) (put_so sessions number served is) ∙ ap account_of (found_put sessions number served)
    by_gone true is =
        let goes_so = goes (sym like.gone ∙ is) in
        let removed : kept_at sessions number served ≡ kept_at sessions number session =
        ap (λ (gone : Bool). cond gone (remove_entry (is_at (nat_cmp number)) sessions) (put_at sessions number served)) is
        ∙ sym (ap (λ (gone : Bool). cond gone (remove_entry (is_at (nat_cmp number)) sessions) (put_at sessions number session)) (sym like.gone ∙ is)) in
        ap (λ (left : List (ℕ × Session)). account_at left number) removed ∙ ap account_of goes_so.1 ∙ sym (like.account ∙ goes_so.0)

-- ---- what was heard

module _ (left : List (ℕ × Session)) (number : ℕ) where
  told_asks : (reaction : Reaction) → HasAsker left number (told_by reaction)
  told_asks Nothing = tt
  told_asks (Respond outgoing) = tt
  told_asks (Leave outgoing abandoned) = tt
  told_asks (Ask requested) = tt
  told_asks (Answered pushed) = tt

  asked_asks : (requested : Requested) (sequence : ℕ) (account : Option (List ℕ)) (request : Option Request)
      → account_at left number ≡ account → HasAsker left number (asked_by requested sequence account request)
  asked_asks requested sequence None request same = tt
  asked_asks requested sequence (Some account) None same = tt
  asked_asks requested sequence (Some account) (Some request) same = ap is_some same

  pdu_asks : (settings : Settings) (session : Session) (pdu : Pdu) (reaction : Reaction) → account_at left number ≡ session.account
      → HasAsker left number (heard_of settings session pdu reaction)
  pdu_asks settings session pdu Nothing same = tt
  pdu_asks settings session pdu (Respond outgoing) same = tt
  pdu_asks settings session pdu (Leave outgoing abandoned) same = tt
  pdu_asks settings session pdu (Ask requested) same = asked_asks requested pdu.sequence session.account (request_of settings.routes pdu.body) same
  pdu_asks settings session pdu (Answered pushed) same = tt

  read_asks : (settings : Settings) (read : Result Pdu PduFault) (done : Done) → account_at left number ≡ done.next.account
      → HasAsker left number (heard_in settings read done)
  read_asks settings (Ok pdu) done same = pdu_asks settings done.next pdu done.reaction same
  read_asks settings (Err fault) done same = told_asks done.reaction

frame_asks : (settings : Settings) (connected : List (ℕ × Session)) (number : ℕ) (octets : List ℕ)
    → Goes number (heeds settings connected number octets)
    → HasAsker (heeds settings connected number octets).sessions number (heeds settings connected number octets).heard
frame_asks settings connected number octets = by_found (session_at connected number)
  where
    by_found : (found : Option Session) → Goes number (heeds_if settings connected number octets found)
        → HasAsker (heeds_if settings connected number octets found).sessions number (heeds_if settings connected number octets found).heard
    by_found None goes = tt
    by_found (Some session) goes =
        let done = done_by settings session octets (read_pdu octets) in
        read_asks (kept_at connected number done.next) number settings (read_pdu octets) done
        (account_so connected number done.next done.next (itself_like done.next) goes)

end_asks : (connected : List (ℕ × Session)) (number : ℕ) → HasAsker (ends_at connected number).sessions number (ends_at connected number).heard
end_asks connected number = by_found (session_at connected number)
  where
    by_found : (found : Option Session) → HasAsker (ends_if connected number found).sessions number (ends_if connected number found).heard
    by_found None = tt
    by_found (Some session) = told_asks (kept_at connected number (on_wrong_length session).next) number (on_wrong_length session).reaction

-- of a service that heard it
module _ (old left : Service) (number : ℕ) (heard : Heard) where
  asks_so : (sessions : List (ℕ × Session)) (told : Heard) → heard ≡ told → left ≡ record old { sessions = sessions }
      → HasAsker sessions number told → HasAsker left.sessions number heard
  asks_so sessions told same left_is asks =
      subst (λ (s : Service). HasAsker s.sessions number heard) (sym left_is) (subst (HasAsker sessions number) (sym same) asks)

  pub heard_asks : (settings : Settings) (octets : List ℕ) → heard ≡ (heeds settings old.sessions number octets).heard
      → left ≡ record old { sessions = (heeds settings old.sessions number octets).sessions }
      → Goes number (heeds settings old.sessions number octets) → HasAsker left.sessions number heard
  heard_asks settings octets same left_is goes =
      let all = heeds settings old.sessions number octets in asks_so all.sessions all.heard same left_is (frame_asks settings old.sessions number octets goes)

  pub ended_asks : heard ≡ (ends_at old.sessions number).heard → left ≡ record old { sessions = (ends_at old.sessions number).sessions }
      → HasAsker left.sessions number heard
  ended_asks same left_is =
      let all = ends_at old.sessions number in asks_so all.sessions all.heard same left_is (end_asks old.sessions number)

-- one of no account asks nothing
pub none_asks : (account : Option (List ℕ)) → is_some account ≡ true → account ≡ None → ⊥
none_asks None some is = cc
none_asks (Some account) some is = cc
