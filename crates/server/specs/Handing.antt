-- What a thread that serves a session hands in, and what it puts.
use Rattle.std.specs.Prelude.{◌≡◌, ◌⊎◌, ℕ, List, [], ◌∷◌, ◌++◌, Option, Some, None}
use Rattle.desk.specs.declared.request.Request.{Request}
use Rattle.pdu_tables.specs.declared.status.Status.TheVariants.{SystemError}
use Rattle.sessions.specs.declared.response.Outgoing.{Outgoing}
use Rattle.sessions.specs.declared.response.Response.{Response}
use Rattle.sessions.specs.declared.response.Response.TheVariants.{Refused}
use Rattle.esme_service.specs.Hearing.{heeds}
use Rattle.esme_service.specs.Service.{Service}
use Rattle.esme_service.specs.Settings.{Settings}
use Rattle.esme_service.specs.declared.heard.Asked.{Asked}
use Rattle.esme_service.specs.declared.heard.Heard.TheVariants as heards
use Rattle.connection_parts.specs.declared.frame.Frame.{Frame}
use Rattle.esme_site.specs.Asking.{refusal_of}
use Rattle.esme_site.specs.Heeding.{HasBegun, Heeds, heeded_prints}
use Rattle.esme_site.specs.Puts.{mail_in, posted_on}
use Rattle.esme_site.specs.declared.heeded.Heeded.{Heeded}
use Rattle.esme_site.specs.declared.heeded.Heeded.TheVariants as heededs
use Rattle.esme_site.specs.declared.heeding.HeardOn.{HeardOn}
use Rattle.esme_site.specs.declared.steps.Taken.{Taken}
use Rattle.node_threads.specs.Slips.{Slipped}
use Rattle.node_threads.specs.Step.TheVariants as steps
use Rattle.serve_nodes.specs.Frames.{Puts}
use Rattle.serve_nodes.specs.declared.frames.Frames.{Frames}
use Rattle.serve_sessions.specs.declared.notice.Notice.{Notice}
use Rattle.serve_sessions.specs.declared.notice.Notice.TheVariants as notices

-- ---- what is handed in

-- One slip was added, of the step in which a request of an account came at a node, and this is what the node made of it.
pub record HandsIn (before : List Slipped) (node : ℕ) (account : List ℕ) (request : Request) (taken : Taken) (after : List Slipped) : Type 0 where
  pub slip : Slipped
  pub slips : after ≡ before ++ slip ∷ []
  pub step : slip.entry.done.step ≡ steps.Request node account request
  pub is : taken ≡ record { ticket = slip.entry.done.given.ticket; refused = slip.entry.done.given.refused }

-- at most one step, of a request
abbrev pub HandsInRequest : ℕ → List Slipped → List Slipped → Type 0
HandsInRequest node before after =
    ((account : List ℕ) × (request : Request) × (taken : Taken) × HandsIn before node account request taken after) ⊎ (after ≡ before)

-- ---- what came of what was heard

-- No step was taken of a request, no session changed, and 0x08 refuses it.
pub record RefusesUnasked (on : HeardOn) (service : Service) (before : List Slipped) (left : Service) (after : List Slipped) (came : Heeded) : Type 0 where
  pub asked : Asked
  pub request : Request
  pub is : on.heard ≡ heards.Request asked request
  pub stays : left ≡ service
  pub slips : after ≡ before
  pub comes : came ≡ heededs.Response (refusal_of asked SystemError)

-- This came of it: as for scripts, by a slip of the node; or no step was taken.
abbrev pub Comes : ℕ → HeardOn → Service → List Slipped → Service → List Slipped → Heeded → Type 0
Comes node on service before left after came =
    Heeds (λ from at account request taken to. HandsIn from at account request taken to) node on service before left after came
    ⊎ RefusesUnasked on service before left after came

-- ---- what is put

-- the service of a node, the slips of the thread that serves one of its sessions, and the frames that it has put
pub record Standing : Type 0 where
  pub service : Service
  pub slips : List Slipped
  pub frames : List Frame

abbrev pub standing : Service → List Slipped → Frames → Standing
standing service slips frames = record { service = service; slips = slips; frames = frames.frames.items }

-- This came, and of what goes out of it the first was put, up to where there was no memory.
pub record ComesInPart (node : ℕ) (system_id : List ℕ) (on : HeardOn) (old new : Standing) : Type 0 where
  pub came : Heeded
  pub comes : Comes node on old.service old.slips new.service new.slips came
  pub begun : HasBegun (λ from prints lost to. Puts from prints to) (heeded_prints system_id on.number came) old.frames new.frames

-- ---- what the operator is told

-- of a refusal
abbrev pub IsToldOf : Response → Option Notice → Type 0
IsToldOf (Refused requested status) notice = notice ≡ Some (notices.Refused requested status)
IsToldOf other notice = Unit {0}

abbrev pub IsToldIf : Option Outgoing → Option Notice → Type 0
IsToldIf None notice = notice ≡ None
IsToldIf (Some outgoing) notice = IsToldOf outgoing.response notice

-- by what came
abbrev pub IsToldBy : Heeded → Option Notice → Type 0
IsToldBy heededs.Nothing notice = notice ≡ None
IsToldBy (heededs.Response outgoing) notice = IsToldOf outgoing.response notice
IsToldBy (heededs.Request asked refusal) notice = IsToldIf refusal notice
IsToldBy (heededs.Answer pushed pdu) notice = notice ≡ None
IsToldBy (heededs.Gone outgoing abandoned) notice = IsToldOf outgoing.response notice

-- ---- a frame

-- These octets came on the session of a number: what goes out of what came of them was put, and behind it the receipts that wait for its account.
pub record Serves (node : ℕ) (settings : Settings) (now number : ℕ) (octets : List ℕ) (old new : Standing) (notice : Option Notice) : Type 0 where
  pub came : Heeded
  pub left : Service
  pub comes : Comes node (record { number = number; heard = (heeds settings old.service.sessions number octets).heard })
      (record old.service { sessions = (heeds settings old.service.sessions number octets).sessions }) old.slips left new.slips came
  pub mail : mail_in new.service ≡ (posted_on now left number).next
  pub put : Puts old.frames (heeded_prints settings.system_id number came ++ (posted_on now left number).prints) new.frames
  pub told : IsToldBy came notice
