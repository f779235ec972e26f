-- A request of a session goes to the node.
use Rattle.std.specs.Prelude.{◌≡◌, ℕ, true, List, Option, Some, is_some, option_map}
use Rattle.desk.specs.declared.request.Request.{Request}
use Rattle.pdu_tables.specs.declared.status.Status.{Status}
use Rattle.sessions.specs.Session.{Session}
use Rattle.sessions.specs.declared.response.Outgoing.{Outgoing}
use Rattle.sessions.specs.declared.response.Response.TheVariants.{Refused}
use Rattle.esme_service.specs.Service.{Service}
use Rattle.esme_service.specs.Sessions.{account_at, waits_at}
use Rattle.esme_service.specs.declared.heard.Asked.{Asked}
use Rattle.esme_service.specs.declared.heard.Heard.{Heard}
use Rattle.esme_service.specs.declared.heard.Heard.TheVariants as heards
use Rattle.esme_site.specs.declared.asking.Asking.{Asking}
use Rattle.esme_site.specs.declared.asking.AskFault.{AskFault}
use Rattle.esme_site.specs.declared.asking.AskFault.TheVariants as faults
use Rattle.esme_site.specs.declared.steps.Taken.{Taken}

-- a request is heard only on a session that has an account
abbrev pub HasAsker : List (ℕ × Session) → ℕ → Heard → Type 0
HasAsker connected number (heards.Request asked request) = is_some (account_at connected number) ≡ true
HasAsker connected number other = Unit {0}

-- the response that refuses what was asked with a status
abbrev pub refusal_of : Asked → Status → Outgoing
refusal_of asked status = record { sequence = asked.sequence; response = Refused asked.requested status }

-- The request was handed in for the account of its session. There it waits under the ticket that came back, and what came back is what refuses it.
pub record HasAsked {P At : Type 0} (took : P → At → List ℕ → Request → Taken → P → Type 0) (at : At) (asking : Asking)
    (service : Service) (before : P) (left : Service) (after : P) (refusal : Option Outgoing) : Type 0 where
  pub account : List ℕ
  pub its : account_at service.sessions asking.number ≡ Some account
  pub taken : Taken
  pub took_it : took before at account asking.request taken after
  pub waits : left ≡ record service {
    sessions = waits_at service.sessions asking.number asking.asked.requested asking.asked.sequence taken.ticket;
  }
  pub refuses : refusal ≡ option_map (refusal_of asking.asked) taken.refused

-- nothing was handed in, or no step was taken of it
abbrev pub HasNotAsked : {P F : Type 0} → (P → F → P → Type 0) → P → P → AskFault F → Type 0
HasNotAsked refused before after faults.Memory = after ≡ before
HasNotAsked refused before after (faults.Step fault) = refused before fault after
