-- What was heard on a session goes to the node, and out, and what waits for its account goes out.
use Rattle.std.proofs.Common.{◌≡◌, ℕ, true, false, List, Option, Some, None, Result, Ok, Err, refl, sym, ap, ◌∙◌, subst}
use Rattle.std.specs.Prelude.{OnOk, is_none}
use Rattle.std.specs.declared.alloc.AllocError.{AllocError}
use Rattle.sessions.specs.Session.{Session}
use Rattle.esme_service.specs.Hearing.{Goes, Heeds, ends_at, heeds}
use Rattle.esme_service.specs.Service.{Service}
use Rattle.esme_service.specs.Sessions.{account_at}
use Rattle.esme_service.specs.declared.heard.Heard.{Heard}
use Rattle.world.specs.Scenes.{clock_in}
use Rattle.script_text.specs.Settings.{Settings}
use Rattle.script_text.specs.Pushes.{session_at}
use Rattle.script_text.specs.Receipts.{posted_for_any}
use Rattle.script_text.specs.Runner.{Acted, Runner, ends, mail_of, on_frame, posts_for}
use Rattle.esme_site.specs.Puts.{posted_on}
use Rattle.script_site.specs.Heeding.{heeded, then_posts}
use Rattle.script_site.specs.Posting.{IsPosted}
use Rattle.script_site.specs.Sites.{Acts, HasActed, Placed}
use Rattle.script_site.proofs.Acting.{acts_as, clock_so, like, mail_is, posted_acts, served, then_acts, with_service}
use Rattle.script_site.proofs.Serving.{end_so, frame_so}

-- what is done once something was heard, and what waits goes out
abbrev goes_on : Settings → ℕ → Heeds → Runner → Acted
goes_on settings number all runner = then_posts number (heeded settings number (record runner { sessions = all.sessions }) all.heard)

module _ (settings : Settings) (number : ℕ) (at : Placed) (left : Service) (heard : Heard) where
  abbrev home : ℕ
  home = at.site.node

  -- it was heard, heeded, and what waits went out
  heeded_then_posted : (r : Result (Unit {0}) AllocError) (all : Heeds) (mid new : Placed) (before text after : List ℕ)
      → heard ≡ all.heard → left ≡ record at.site.service { sessions = all.sessions }
      → Acts home (λ runner. heeded settings number runner heard) (with_service at left) mid before text
      → OnOk r (Acts mid.site.node (λ runner. posts_for runner (account_at runner.sessions number)) mid new text after)
      → OnOk r (Acts home (goes_on settings number all) at new before after)
  heeded_then_posted (Err fault) all mid new before text after same left_is did posted = tt
  heeded_then_posted (Ok done) all mid new before text after same left_is did posted = λ w runner running.
      let heard_at = served home at (record at.site { service = left }) w runner all.sessions runner.waiting running refl refl
      (ap (λ (s : Service). s.sessions) left_is) (ap (λ (s : Service). s.waiting) left_is ∙ running.waiting) in
      let both = then_acts home (λ r. heeded settings number r heard) (λ r. posts_for r (account_at r.sessions number)) (with_service at left) mid new
      before text after did posted w (record runner { sessions = all.sessions }) heard_at in
      subst (λ (h : Heard). HasActed home w (then_posts number (heeded settings number (record runner { sessions = all.sessions }) h)) new before after) same both

  module _ (r : Result (Unit {0}) AllocError) (mid new : Placed) (before text after : List ℕ)
      (there : is_none (session_at at.site.service.sessions number) ≡ false)
      (did : Acts home (λ runner. heeded settings number runner heard) (with_service at left) mid before text)
      (posted : OnOk r (Acts mid.site.node (λ runner. posts_for runner (account_at runner.sessions number)) mid new text after)) where
    -- a session is connected
    session_there : (found : Option Session) → session_at at.site.service.sessions number ≡ found → (session : Session) × (session_at at.site.service.sessions number ≡ Some session)
    session_there None is = absurd (let clash : true ≡ false = sym (ap is_none is) ∙ there in cc)
    session_there (Some session) is = (session, is)

    -- The octets of one frame came.
    pub frame_acts : (octets : List ℕ) → heard ≡ (heeds settings at.site.service.sessions number octets).heard
        → left ≡ record at.site.service { sessions = (heeds settings at.site.service.sessions number octets).sessions }
        → Goes number (heeds settings at.site.service.sessions number octets)
        → OnOk r (Acts home (λ runner. on_frame settings number runner octets) at new before after)
    frame_acts octets same left_is goes =
        let all = heeds settings at.site.service.sessions number octets in
        acts_as home r (goes_on settings number all) (λ runner. on_frame settings number runner octets) at new before after
        (λ w runner running.
        let found = session_there (session_at at.site.service.sessions number) refl in
        let same_sessions = running.sessions in
        like (ap (λ (sessions : List (ℕ × Session)). goes_on settings number (heeds settings sessions number octets) runner) same_sessions
        ∙ sym (frame_so settings number runner found.0 octets
        (subst (λ (sessions : List (ℕ × Session)). session_at sessions number ≡ Some found.0) same_sessions found.1)
        (subst (λ (sessions : List (ℕ × Session)). Goes number (heeds settings sessions number octets)) same_sessions goes))))
        (heeded_then_posted r all mid new before text after same left_is did posted)

    -- A wrong length came.
    pub end_acts : heard ≡ (ends_at at.site.service.sessions number).heard
        → left ≡ record at.site.service { sessions = (ends_at at.site.service.sessions number).sessions } → Goes number (ends_at at.site.service.sessions number)
        → OnOk r (Acts home (ends settings number) at new before after)
    end_acts same left_is goes =
        let all = ends_at at.site.service.sessions number in
        acts_as home r (goes_on settings number all) (ends settings number) at new before after
        (λ w runner running.
        let found = session_there (session_at at.site.service.sessions number) refl in
        let same_sessions = running.sessions in
        like (ap (λ (sessions : List (ℕ × Session)). goes_on settings number (ends_at sessions number) runner) same_sessions
        ∙ sym (end_so settings number runner found.0
        (subst (λ (sessions : List (ℕ × Session)). session_at sessions number ≡ Some found.0) same_sessions found.1)
        (subst (λ (sessions : List (ℕ × Session)). Goes number (ends_at sessions number)) same_sessions goes))))
        (heeded_then_posted r all mid new before text after same left_is did posted)

-- what waits for the account of a session went out
pub posts_on : (r : Result (Unit {0}) AllocError) (at : Placed) (last : Service) (number now : ℕ) (before after : List ℕ)
    → now ≡ clock_in at.world at.site.node
    → OnOk r (IsPosted at.site.node (posted_on now at.site.service number) last before after)
    → OnOk r (Acts at.site.node (λ runner. posts_for runner (account_at runner.sessions number)) at (with_service at last) before after)
posts_on r at last number now before after clock posted =
    posted_acts r at last (posted_on now at.site.service number)
    (λ runner. posted_for_any runner.node.kept.clock (mail_of runner) (account_at runner.sessions number)) before after
    (λ w runner running. λ i. posted_for_any ((clock ∙ clock_so at.site.node at w runner running) i) (mail_is at.site.node at w runner running i)
    (account_at (running.sessions i) number)) posted
