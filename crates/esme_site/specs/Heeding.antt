-- What was heard on a session goes to its node, and out.
use Rattle.std.specs.Prelude.{◌≡◌, ℕ, List, [], ◌∷◌, ◌++◌, Option, Some, None}
use Rattle.desk.specs.declared.request.Request.{Request}
use Rattle.sessions.specs.Responses.{pdu_of}
use Rattle.sessions.specs.declared.response.Outgoing.{Outgoing}
use Rattle.esme_service.specs.Service.{Service}
use Rattle.esme_service.specs.declared.heard.Heard.{Heard}
use Rattle.esme_service.specs.declared.heard.Heard.TheVariants as heards
use Rattle.script_text.specs.Prints.{Print, AtOnce, Gone}
use Rattle.esme_site.specs.Asking.{HasAsked, HasNotAsked}
use Rattle.esme_site.specs.declared.heeded.Heeded.{Heeded}
use Rattle.esme_site.specs.declared.heeded.Heeded.TheVariants as heededs
use Rattle.esme_site.specs.declared.heeding.HeardOn.{HeardOn}
use Rattle.esme_site.specs.declared.heeding.HeedFault.{HeedFault}
use Rattle.esme_site.specs.declared.heeding.HeedFault.TheVariants as faults
use Rattle.esme_site.specs.declared.heeding.Unasked.{Unasked}
use Rattle.esme_site.specs.declared.steps.Taken.{Taken}

-- ---- what comes of it

-- This comes of what was heard; a request may be refused.
abbrev pub comes_of : Heard → Option Outgoing → Heeded
comes_of heards.Nothing refusal = heededs.Nothing
comes_of (heards.Response outgoing) refusal = heededs.Response outgoing
comes_of (heards.Request asked request) refusal = heededs.Request asked refusal
comes_of (heards.Answer pushed pdu) refusal = heededs.Answer pushed pdu
comes_of (heards.Gone outgoing abandoned) refusal = heededs.Gone outgoing abandoned

-- A request is handed in, once. Nothing else is: then the sessions and the node are as they were.
abbrev pub HandsIn : {P At : Type 0} → (P → At → List ℕ → Request → Taken → P → Type 0) → At → ℕ → Heard → Service → P → Service → P → Option Outgoing
    → Type 0
HandsIn took at number (heards.Request asked request) service before left after refusal =
    HasAsked took at (record { number = number; asked = asked; request = request }) service before left after refusal
HandsIn took at number other service before left after refusal = (left ≡ service) × (after ≡ before)

-- This came of what was heard on the session of a number.
pub record Heeds {P At : Type 0} (took : P → At → List ℕ → Request → Taken → P → Type 0) (at : At) (on : HeardOn) (service : Service) (before : P)
    (left : Service) (after : P) (heeded : Heeded) : Type 0 where
  pub refusal : Option Outgoing
  pub handed : HandsIn took at on.number on.heard service before left after refusal
  pub comes : heeded ≡ comes_of on.heard refusal

-- No step was taken of the request that was heard, and no session changed.
pub record HeedsNot {P F : Type 0} (refused : P → F → P → Type 0) (on : HeardOn) (service : Service) (before : P) (left : Service) (after : P)
    (unasked : Unasked F) : Type 0 where
  pub request : Request
  pub is : on.heard ≡ heards.Request unasked.asked request
  pub stays : left ≡ service
  pub step : HasNotAsked refused before after unasked.why

-- ---- what goes out

-- a response goes out on the session of a number, of a centre with this system_id
abbrev pub response_prints : List ℕ → ℕ → Option Outgoing → List Print
response_prints system_id number None = []
response_prints system_id number (Some outgoing) = AtOnce number (pdu_of system_id outgoing) ∷ []

-- what goes out of what came
abbrev pub heeded_prints : List ℕ → ℕ → Heeded → List Print
heeded_prints system_id number heededs.Nothing = []
heeded_prints system_id number (heededs.Response outgoing) = AtOnce number (pdu_of system_id outgoing) ∷ []
heeded_prints system_id number (heededs.Request asked refusal) = response_prints system_id number refusal
heeded_prints system_id number (heededs.Answer pushed pdu) = []
heeded_prints system_id number (heededs.Gone outgoing abandoned) = AtOnce number (pdu_of system_id outgoing) ∷ Gone number ∷ []

-- ---- if there was no memory for some of it (own)

-- Of these prints the first were put, up to where there was no memory.
pub record HasBegun {O : Type 0} (puts : O → List Print → List ℕ → O → Type 0) (prints : List Print) (before after : O) : Type 0 where
  pub put : List Print
  pub unput : List Print
  pub all : put ++ unput ≡ prints
  pub did : puts before put [] after

-- This came of what was heard, and was put in part.
pub record HeedsInPart {P At O : Type 0} (took : P → At → List ℕ → Request → Taken → P → Type 0) (puts : O → List Print → List ℕ → O → Type 0) (at : At)
    (system_id : List ℕ) (on : HeardOn) (service : Service) (before : P) (from : O) (left : Service) (after : P) (to : O) : Type 0 where
  pub heeded : Heeded
  pub heeds : Heeds took at on service before left after heeded
  pub begun : HasBegun puts (heeded_prints system_id on.number heeded) from to

-- ---- by the fault

abbrev pub OnMemory : {F : Type 0} → HeedFault F → Type 0 → Type 0
OnMemory faults.Memory fact = fact
OnMemory (faults.Unasked unasked) fact = Unit {0}

abbrev pub IfUnasked : {F : Type 0} → HeedFault F → (Unasked F → Type 0) → Type 0
IfUnasked faults.Memory fact = Unit {0}
IfUnasked (faults.Unasked unasked) fact = fact unasked
