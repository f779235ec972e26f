-- What a thread that serves a session hands in, and what it puts.
use Rattle.std.proofs.Common.{◌≡◌, ℕ, List, [], ◌++◌, Option, Some, None, Result, Ok, Err, sym, ap, ◌∙◌, subst, inl, inr}
use Rattle.std.specs.Prelude.{IfOk, OnErr, OnOk}
use Rattle.std.specs.declared.alloc.AllocError.{AllocError}
use Rattle.desk.specs.declared.request.Request.{Request}
use Rattle.pdu_tables.specs.declared.status.Status.TheVariants.{SystemError}
use Rattle.sessions.specs.declared.response.Outgoing.{Outgoing}
use Rattle.esme_service.specs.Hearing.{heeds}
use Rattle.esme_service.specs.Service.{Service}
use Rattle.esme_service.specs.Settings.{Settings}
use Rattle.esme_service.specs.declared.heard.Heard.{Heard}
use Rattle.esme_service.specs.declared.heard.Heard.TheVariants as heards
use Rattle.esme_site.specs.Asking.{HasNotAsked, refusal_of}
use Rattle.esme_site.specs.Heeding.{HandsIn as Hands, HeedsNot, heeded_prints}
use Rattle.esme_site.specs.Puts.{mail_in, posted_on}
use Rattle.esme_site.specs.declared.asking.AskFault.{AskFault}
use Rattle.esme_site.specs.declared.asking.AskFault.TheVariants as faults
use Rattle.esme_site.specs.declared.heeded.Heeded.{Heeded}
use Rattle.esme_site.specs.declared.heeded.Heeded.TheVariants as heededs
use Rattle.esme_site.specs.declared.heeding.HeardOn.{HeardOn}
use Rattle.esme_site.specs.declared.heeding.Unasked.{Unasked}
use Rattle.esme_site.specs.declared.steps.Taken.{Taken}
use Rattle.esme_site.proofs.Ending.{none_begun}
use Rattle.node_threads.specs.Slips.{Seated, Slipped}
use Rattle.serve_nodes.specs.Frames.{Puts, puts_both}
use Rattle.serve_nodes.specs.declared.frames.Frames.{Frames}
use Rattle.serve_sessions.specs.declared.notice.Notice.{Notice}
use Rattle.server.specs.Handing.{Comes, ComesInPart, HandsIn, HandsInRequest, IsToldBy, RefusesUnasked, Serves, Standing, standing}

-- a slip of a step in which a request came
abbrev slip_of : List Slipped → ℕ → List ℕ → Request → Taken → List Slipped → Type 0
slip_of from at account request taken to = HandsIn from at account request taken to

-- ---- no step was taken

no_slip : {F : Type 0} (fault : AskFault F) (before after : Seated)
    → HasNotAsked (λ (from : Seated) (why : F) (to : Seated). to.slips ≡ from.slips) before after fault → after.slips ≡ before.slips
no_slip faults.Memory before after same = ap (λ (s : Seated). s.slips) same
no_slip (faults.Step fault) before after same = same

module _ {F : Type 0} (node : ℕ) (on : HeardOn) (service left : Service) (before after : Seated) (unasked : Unasked F)
    (so : HeedsNot (λ (from : Seated) (why : F) (to : Seated). to.slips ≡ from.slips) on service before left after unasked)
    (refusal : Outgoing) (is : refusal ≡ refusal_of unasked.asked SystemError) where
  pub refuses_so : Comes node on service before.slips left after.slips (heededs.Response refusal)
  refuses_so = inr (record {
    asked = unasked.asked;
    request = so.request;
    is = so.is;
    stays = so.stays;
    slips = no_slip unasked.why before after so.step;
    comes = ap heededs.Response is;
  })

  module _ (system_id : List ℕ) (from mid to : Frames) (same : mid ≡ from) where
    pub refusal_unput : Puts mid.frames.items [] to.frames.items
        → ComesInPart node system_id on (standing service before.slips from) (standing left after.slips to)
    refusal_unput did = record {
      came = heededs.Response refusal;
      comes = refuses_so;
      begun = none_begun (λ a prints lost b. Puts a prints b) (heeded_prints system_id on.number (heededs.Response refusal)) from.frames.items to.frames.items
          (subst (λ (f : Frames). Puts f.frames.items [] to.frames.items) same did);
    }

pub if_err : {T : Type 0} (r : Result T AllocError) (A : Type 0) → A → OnErr r A
if_err (Ok done) A a = tt
if_err (Err fault) A a = a

-- ---- at most one

one_so : (node : ℕ) (on : HeardOn) (service left : Service) (before after : List Slipped) (came : Heeded)
    → Comes node on service before left after came → HandsInRequest node before after
one_so node on service left before after came (inr not) = inr not.slips
one_so node on service left before after came (inl so) = by_heard on.heard so.handed
  where
    by_heard : (heard : Heard) → Hands slip_of node on.number heard service before left after so.refusal → HandsInRequest node before after
    by_heard (heards.Request asked request) has = inl (has.account, request, has.taken, has.took_it)
    by_heard heards.Nothing stays = inr stays.1
    by_heard (heards.Response outgoing) stays = inr stays.1
    by_heard (heards.Answer pushed pdu) stays = inr stays.1
    by_heard (heards.Gone outgoing abandoned) stays = inr stays.1

pub one_request : (node : ℕ) (system_id : List ℕ) (on : HeardOn) (old new : Standing) (result : Result Heeded AllocError)
    → IfOk result (Comes node on old.service old.slips new.service new.slips) → OnErr result (ComesInPart node system_id on old new)
    → HandsInRequest node old.slips new.slips
one_request node system_id on old new (Ok came) comes part = one_so node on old.service new.service old.slips new.slips came comes
one_request node system_id on old new (Err fault) comes part = one_so node on old.service new.service old.slips new.slips part.came part.comes

-- ---- a frame

module _ (node : ℕ) (settings : Settings) (now number : ℕ) (octets : List ℕ) (old : Standing) (heard : Heard) (site : Service)
    (same : heard ≡ (heeds settings old.service.sessions number octets).heard)
    (site_is : site ≡ record old.service { sessions = (heeds settings old.service.sessions number octets).sessions }) where
  pub serves_so : (came : Heeded) (left kept last : Service) (slips : List Slipped) (mid to : Frames) (notice : Option Notice)
      → Comes node (record { number = number; heard = heard }) site old.slips left slips came
      → Puts old.frames (heeded_prints settings.system_id number came) mid.frames.items → kept ≡ left
      → mail_in last ≡ (posted_on now kept number).next → Puts mid.frames.items (posted_on now kept number).prints to.frames.items → IsToldBy came notice
      → Serves node settings now number octets old (standing last slips to) notice
  serves_so came left kept last slips mid to notice comes one stays mail two told = record {
    came = came;
    left = left;
    comes = subst (λ (s : Service). Comes node (record { number = number; heard = (heeds settings old.service.sessions number octets).heard }) s old.slips
        left slips came) site_is (subst (λ (h : Heard). Comes node (record { number = number; heard = h }) site old.slips left slips came) same comes);
    mail = mail ∙ ap (λ (s : Service). (posted_on now s number).next) stays;
    put = puts_both old.frames mid.frames.items to.frames.items (heeded_prints settings.system_id number came) (posted_on now left number).prints one
        (subst (λ (s : Service). Puts mid.frames.items (posted_on now s number).prints to.frames.items) stays two);
    told = told;
  }
