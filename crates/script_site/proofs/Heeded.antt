-- What comes of what was heard on a session.
use Rattle.std.proofs.Common.{◌≡◌, ℕ, List, ◌++◌, Option, Some, None, Result, Ok, Err, refl, sym, ap, subst, ◌∙◌}
use Rattle.std.specs.Prelude.{OnOk, option_map}
use Rattle.std.specs.declared.alloc.AllocError.{AllocError}
use Rattle.delivery.specs.Outcomes.{told_in}
use Rattle.desk.specs.declared.request.Request.{Request}
use Rattle.mc_model.specs.node.Outputs.{Outputs}
use Rattle.pdu_tables.specs.StatusCodes.{status_code}
use Rattle.pdu_tables.specs.declared.status.Status.{Status}
use Rattle.sessions.specs.Session.{Session}
use Rattle.sessions.specs.declared.response.Outgoing.{Outgoing}
use Rattle.world.specs.Scenes.{Scene}
use Rattle.esme_service.specs.Service.{Service}
use Rattle.esme_service.specs.Sessions.{account_at, waits_at}
use Rattle.esme_service.specs.declared.heard.Asked.{Asked}
use Rattle.esme_service.specs.declared.heard.Heard.{Heard}
use Rattle.esme_service.specs.declared.heard.Heard.TheVariants as heards
use Rattle.script_text.specs.Attempts.{Went, all_given_up, delivered_so}
use Rattle.script_text.specs.Node.{Node, request_at, step_at}
use Rattle.script_text.specs.Left.{rests}
use Rattle.script_text.specs.Prints.{Print, text_at}
use Rattle.script_text.specs.Runner.{Acted, Runner, refusal_prints}
use Rattle.script_text.specs.Settings.{Settings}
use Rattle.script_text.specs.World.{World}
use Rattle.esme_site.specs.Asking.{HasAsked, refusal_of}
use Rattle.esme_site.specs.declared.asking.Asking.{Asking}
use Rattle.esme_site.specs.declared.steps.Taken.{Taken}
use Rattle.script_site.specs.Asking.{TakesRequest}
use Rattle.script_site.specs.declared.steps.Home.{Home}
use Rattle.esme_site.specs.Heeding.{HandsIn, Heeds, comes_of, heeded_prints, response_prints}
use Rattle.esme_site.specs.declared.heeded.Heeded.{Heeded}
use Rattle.esme_site.specs.declared.heeding.HeardOn.{HeardOn}
use Rattle.script_site.specs.Heeding.{asked_by, asks_if, heeded, went_by}
use Rattle.script_site.specs.Sites.{Acts, Goes, IsGoing, IsRunning, Placed, Takes}
use Rattle.script_site.proofs.Stepping.{request_goes}

-- ---- a request

-- what this leaves, and that it prints the refusal with a status, if there is one
pub record IsAskedSo (home : ℕ) (w : World) (acted : Acted) (number : ℕ) (asked : Asked) (refusal : Option Outgoing) (new : Placed) : Type 0 where
  pub running : IsRunning home new w acted.next
  pub status : Option Status
  pub refused : refusal ≡ option_map (refusal_of asked) status
  pub prints : acted.prints ≡ refusal_prints number asked.requested asked.sequence (option_map status_code status)

-- as whatever runner they were
abbrev pub AsksSo : ℕ → ℕ → Asked → Request → Placed → Placed → Option Outgoing → Type 0
AsksSo home number asked request old new refusal =
    (w : World) (runner : Runner) → IsRunning home old w runner
    → IsAskedSo home w (asks_if number runner asked request (account_at runner.sessions number)) number asked refusal new

-- a request is handed to this node of a world
abbrev pub takes_at : Scene → Home → List ℕ → Request → Taken → Scene → Type 0
takes_at before at account request taken after = TakesRequest before at.node account request taken after

-- it was handed to the node, and waits, or is refused
pub asked_so : (at : Placed) (new : Scene) (left : Service) (asking : Asking) (refusal : Option Outgoing)
    → HasAsked takes_at (record { node = at.site.node }) asking at.site.service at.world left new refusal
    → AsksSo at.site.node asking.number asking.asked asking.request at (record { world = new; site = record at.site { service = left } }) refusal
asked_so at new left asking refusal has w runner running =
    let number = asking.number in
    let asked = asking.asked in
    let request = asking.request in
    let account = has.account in
    let given = has.took_it.given in
    let home = at.site.node in
    let went = request_goes home at.world w runner.node running.going account request given new has.took_it.takes in
    let step = step_at runner.node (request_at runner.node account request) in
    let ticket = ap (λ (o : Outputs). o.ticket) went.1.others in
    let refused = ap (λ (o : Outputs). o.refused) went.1.others in
    let accounts : Some account ≡ account_at runner.sessions number =
    sym has.its ∙ ap (λ (sessions : List (ℕ × Session)). account_at sessions number) running.sessions in
    let waits : left ≡ record at.site.service { sessions = waits_at at.site.service.sessions number asked.requested asked.sequence given.ticket } =
    has.waits ∙ ap (λ (taken : Taken). record at.site.service {
      sessions = waits_at at.site.service.sessions number asked.requested asked.sequence taken.ticket;
    }) has.took_it.is in
    let so : IsAskedSo home w (asked_by number runner asked (request_at runner.node account request) step) number asked refusal
    (record { world = new; site = record at.site { service = left } }) = record {
      running = record {
        home_is = refl;
        going = went.0;
        sessions = ap (λ (s : Service). s.sessions) waits
            ∙ (λ i. waits_at (running.sessions i) number asked.requested asked.sequence (ticket i));
        streams = running.streams;
        waiting = ap (λ (s : Service). s.waiting) waits ∙ running.waiting;
      };
      status = given.refused;
      refused = has.refuses ∙ ap (λ (taken : Taken). option_map (refusal_of asked) taken.refused) has.took_it.is;
      prints = ap (refusal_prints number asked.requested asked.sequence) (sym refused);
    } in
    subst (λ (found : Option (List ℕ)). IsAskedSo home w (asks_if number runner asked request found) number asked refusal
    (record { world = new; site = record at.site { service = left } })) accounts so

-- the response of a refusal is what is printed of it
refused_so : (system_id : List ℕ) (number : ℕ) (asked : Asked) (refusal : Option Outgoing) (status : Option Status)
    → refusal ≡ option_map (refusal_of asked) status
    → response_prints system_id number refusal ≡ refusal_prints number asked.requested asked.sequence (option_map status_code status)
refused_so system_id number asked refusal None is = ap (response_prints system_id number) is
refused_so system_id number asked refusal (Some status) is = ap (response_prints system_id number) is

module _ (settings : Settings) (number : ℕ) (at : Placed) (left : Service) (mid new : Scene) (before after : List ℕ) where
  abbrev home : ℕ
  home = at.site.node

  abbrev its_home : Home
  its_home = record { node = at.site.node }

  abbrev left_so : Placed
  left_so = record { world = new; site = record at.site { service = left } }

  -- No session changed, and the node went on by what came of attempts.
  went_on : (act : Node → Went) (w : World) (runner : Runner) → (left ≡ at.site.service) × (mid ≡ at.world) → Goes home act mid new → IsRunning home at w runner
      → IsRunning home left_so w (record runner { node = (act runner.node).next })
  went_on act w runner stays goes running = record {
    home_is = running.home_is;
    going = goes w runner.node (subst (λ (s : Scene). IsGoing home s w runner.node) (sym stays.1) running.going);
    sessions = ap (λ (s : Service). s.sessions) stays.0 ∙ running.sessions;
    streams = running.streams;
    waiting = ap (λ (s : Service). s.waiting) stays.0 ∙ running.waiting;
  }

  -- A request went to the node, and nothing came of attempts.
  request_on : (w : World) (acted : Acted) → Goes home (λ n. rests n) mid new
      → IsRunning home (record { world = mid; site = record at.site { service = left } }) w acted.next → IsRunning home left_so w acted.next
  request_on w acted goes running = record {
    home_is = running.home_is;
    going = goes w acted.next.node running.going;
    sessions = running.sessions;
    streams = running.streams;
    waiting = running.waiting;
  }

  by_heard : (heard : Heard) (refusal : Option Outgoing) → HandsIn takes_at its_home number heard at.site.service at.world left mid refusal
      → after ≡ before ++ text_at home (heeded_prints settings.system_id number (comes_of heard refusal))
      → Goes home (λ n. went_by n (comes_of heard refusal)) mid new
      → Acts home (λ runner. heeded settings number runner heard) at left_so before after
  by_heard heards.Nothing refusal stays text goes = λ w runner running.
      record { running = went_on (λ n. rests n) w runner stays goes running; text = text }
  by_heard (heards.Response outgoing) refusal stays text goes = λ w runner running.
      record { running = went_on (λ n. rests n) w runner stays goes running; text = text }
  by_heard (heards.Request asked request) refusal has text goes = λ w runner running.
      let so = asked_so at mid left (record { number = number; asked = asked; request = request }) refusal has w runner running in
      let acted = asks_if number runner asked request (account_at runner.sessions number) in
      record {
        running = request_on w acted goes so.running;
        text = text ∙ ap (λ (prints : List Print). before ++ text_at home prints)
            (refused_so settings.system_id number asked refusal so.status so.refused ∙ sym so.prints);
      }
  by_heard (heards.Answer pushed pdu) refusal stays text goes = λ w runner running. record {
    running = went_on (λ n. delivered_so n pushed.delivery (told_in pushed.sequence pdu)) w runner stays goes running;
    text = text;
  }
  by_heard (heards.Gone outgoing abandoned) refusal stays text goes = λ w runner running.
      record { running = went_on (λ n. all_given_up n abandoned) w runner stays goes running; text = text }

  -- It was heeded, and what came of attempts was concluded.
  pub heeded_acts : (r : Result (Unit {0}) AllocError) (heard : Heard) (came : Heeded)
      → Heeds takes_at its_home (record { number = number; heard = heard }) at.site.service at.world left mid came
      → after ≡ before ++ text_at home (heeded_prints settings.system_id number came) → OnOk r (Goes home (λ n. went_by n came) mid new)
      → OnOk r (Acts home (λ runner. heeded settings number runner heard) at left_so before after)
  heeded_acts (Err fault) heard came heeds text goes = tt
  heeded_acts (Ok done) heard came heeds text goes =
      by_heard heard heeds.refusal heeds.handed
      (text ∙ ap (λ (h : Heeded). before ++ text_at home (heeded_prints settings.system_id number h)) heeds.comes)
      (subst (λ (h : Heeded). Goes home (λ n. went_by n h) mid new) heeds.comes goes)
