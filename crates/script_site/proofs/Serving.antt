-- A frame is served: what its session makes of it, what of that goes to the node, and what goes out, are together what a script says of it.
use Rattle.std.proofs.Common.{◌≡◌, ℕ, Bool, true, false, cond, List, [], Option, Some, None, Result, Ok, Err, refl, sym, ap, ◌∙◌, subst, ◌++◌, ◌∷◌}
use Rattle.std.specs.Ordering.{nat_cmp}
use Rattle.std.specs.Map.{remove_entry}
use Rattle.std.specs.BTreeMap.{insert_entry, is_at}
use Rattle.mc_model.specs.node.Input.{Input}
use Rattle.node_model.specs.Outputs.{Stepped}
use Rattle.pdu_tables.specs.CommandCodes.{command_of}
use Rattle.pdu_codec.specs.Grammar.{word_at}
use Rattle.pdu_codec.specs.Pdu.{read_pdu}
use Rattle.pdu_bodies.specs.declared.pdu.Pdu.{Pdu}
use Rattle.pdu_fields.specs.declared.fault.PduFault.{PduFault}
use Rattle.desk.specs.declared.request.Request.{Request}
use Rattle.delivery.specs.Outcomes.{told_in}
use Rattle.sessions.specs.Session.{Session}
use Rattle.sessions.specs.Responses.{requested_by}
use Rattle.sessions.specs.States.{is_gone}
use Rattle.sessions.specs.Steps.{Done, can_wait, on_fault, on_pdu, on_wait, on_wrong_length}
use Rattle.sessions.specs.declared.pushed.Delivery.{Delivery}
use Rattle.sessions.specs.declared.pushed.Delivery.TheVariants as deliveries
use Rattle.sessions.specs.declared.reaction.Reaction.{Reaction}
use Rattle.sessions.specs.declared.reaction.Reaction.TheVariants.{Nothing, Respond, Leave, Ask, Answered}
use Rattle.sessions.specs.declared.request.OpenRequest.{OpenRequest}
use Rattle.sessions.specs.declared.requested.Requested.{Requested}
use Rattle.esme_service.specs.Hearing.{Goes, GoesIf, asked_by, done_by, ends_at, ends_if, heard_in, heard_of, heeds, heeds_if, told_by}
use Rattle.esme_service.specs.Sessions.{account_at, account_of, in_window, kept_at, put_at, session_or_opened, waits_if}
use Rattle.esme_service.specs.declared.heard.Heard.{Heard}
use Rattle.esme_service.proofs.Entries.{set_put}
use Rattle.esme_service.proofs.Frames.{left_open}
use Rattle.esme_site.proofs.Askers.{IsLike, account_so, found_put, itself_like, put_so}
use Rattle.script_text.specs.Left.{followed_by, rests}
use Rattle.script_text.specs.Settings.{Settings}
use Rattle.script_text.specs.Node.{Node, request_at, step_at, with_step}
use Rattle.script_text.specs.Attempts.{Went, all_given_up, delivered_so}
use Rattle.script_text.specs.Prints.{Print}
use Rattle.script_text.specs.Pushes.{session_at}
use Rattle.script_text.specs.Runner.{Acted, Came, Runner, Served, came_by, ends, gone_on, nothing_came, on_done, on_frame, on_reaction}
use Rattle.script_text.specs.Runner.{on_read, on_request, posts_for, reaction_prints, refusal_prints, served_at, serves, unasked, with_session}
use Rattle.script_site.specs.Heeding.{asked_by as node_asked, asks_if, by_went, heeded, then_posts}

-- the runner whose session of a number was served
abbrev kept : Runner → ℕ → Session → Runner
kept runner number session = record runner { sessions = kept_at runner.sessions number session }

with_kept : (runner : Runner) (number : ℕ) (session : Session) → with_session runner number session ≡ kept runner number session
with_kept runner number session = by_test (is_gone session.state)
  where
    by_test : (gone : Bool)
        → cond {A = Runner} gone (record runner { sessions = remove_entry (is_at (nat_cmp number)) runner.sessions })
        (record runner { sessions = put_at runner.sessions number session })
        ≡ record runner {
          sessions = cond gone (remove_entry (is_at (nat_cmp number)) runner.sessions) (put_at runner.sessions number session);
        }
    by_test true = refl
    by_test false = refl

unasked_by : (number : ℕ) (node : Node) (session : Session) (requested : Requested) (sequence : ℕ) (account : Option (List ℕ))
    → on_request number node session requested sequence account None ≡ unasked node session []
unasked_by number node session requested sequence None = refl
unasked_by number node session requested sequence (Some account) = refl

unanswered_by : (node : Node) (delivery : Delivery) → delivered_so node delivery None ≡ rests node
unanswered_by node (deliveries.Attempt slot) = refl
unanswered_by node (deliveries.Receipt id) = refl

-- ---- a request

waits_so : (session : Session) (request : OpenRequest) → is_gone (on_wait session request).state ≡ is_gone session.state
waits_so session request = by_test (can_wait session)
  where
    by_test : (can : Bool) → is_gone (cond {A = Session} can (record session { requests = session.requests ++ request ∷ [] }) session).state ≡ is_gone session.state
    by_test true = refl
    by_test false = refl

window_so : (session : Session) (requested : Requested) (sequence : ℕ) (ticket : Option ℕ)
    → is_gone (in_window session requested sequence ticket).state ≡ is_gone session.state
window_so session requested sequence None = refl
window_so session requested sequence (Some ticket) = waits_so session (record { ticket = ticket; requested = requested; sequence = sequence })

module _ (settings : Settings) (number : ℕ) (old : Runner) (session : Session) where
  -- the node takes the step of a request, which waits on its session
  stepped_so : (requested : Requested) (sequence : ℕ) (input : Input) (step : Stepped) → is_gone session.state ≡ false
      → served_at old number (record {
        next = record { node = with_step old.node step; session = in_window session requested sequence step.outputs.ticket };
        inputs = input ∷ [];
        prints = refusal_prints number requested sequence step.outputs.refused;
      }) ≡ node_asked number (kept old number session) (record { requested = requested; sequence = sequence }) input step
  stepped_so requested sequence input step stays =
      let window = in_window session requested sequence step.outputs.ticket in
      let there = put_so old.sessions number session stays in
      let theirs : kept_at old.sessions number window ≡ insert_entry nat_cmp (remove_entry (is_at (nat_cmp number)) old.sessions) number window =
      put_so old.sessions number window (window_so session requested sequence step.outputs.ticket ∙ stays) in
      let ours : waits_if (kept_at old.sessions number session) number requested sequence step.outputs.ticket
      (session_at (kept_at old.sessions number session) number)
      ≡ insert_entry nat_cmp (remove_entry (is_at (nat_cmp number)) old.sessions) number window =
      ap (λ (sessions : List (ℕ × Session)). waits_if sessions number requested sequence step.outputs.ticket (session_at sessions number)) there
      ∙ ap (waits_if (put_at old.sessions number session) number requested sequence step.outputs.ticket) (found_put old.sessions number session)
      ∙ set_put (remove_entry (is_at (nat_cmp number)) old.sessions) number session window in
      let with_both : with_session (record old { node = with_step old.node step }) number window
      ≡ record old {
        node = with_step old.node step;
        sessions = waits_if (kept_at old.sessions number session) number requested sequence
            step.outputs.ticket (session_at (kept_at old.sessions number session) number);
      } =
      with_kept (record old { node = with_step old.node step }) number window
      ∙ ap (λ (sessions : List (ℕ × Session)). record old { node = with_step old.node step; sessions = sessions }) (theirs ∙ sym ours) in
      ap (λ (runner : Runner). record {
        next = runner;
        inputs = input ∷ [];
        prints = refusal_prints number requested sequence step.outputs.refused;
      }) with_both

  -- a request of the account, or nothing
  asked_so : (requested : Requested) (sequence : ℕ) (account : Option (List ℕ)) (request : Option Request) → is_gone session.state ≡ false
      → session.account ≡ account
      → served_at old number (on_request number old.node session requested sequence account request)
      ≡ heeded settings number (kept old number session) (asked_by requested sequence account request)
  asked_so requested sequence None request stays is = ap (λ (runner : Runner). record { next = runner; inputs = []; prints = [] }) (with_kept old number session)
  asked_so requested sequence (Some account) None stays is =
      ap (λ (runner : Runner). record { next = runner; inputs = []; prints = [] }) (with_kept old number session)
  asked_so requested sequence (Some account) (Some request) stays is =
      let input = request_at old.node account request in
      let bound : account_at (kept_at old.sessions number session) number ≡ Some account =
      ap (λ (sessions : List (ℕ × Session)). account_at sessions number) (put_so old.sessions number session stays)
      ∙ ap account_of (found_put old.sessions number session) ∙ is in
      stepped_so requested sequence input (step_at old.node input) stays
      ∙ sym (ap (asks_if number (kept old number session) (record { requested = requested; sequence = sequence }) request) bound)

  gone_on_so : (went : Went) (prints : List Print) → served_at old number (gone_on session went prints) ≡ by_went (kept old number session) went prints
  gone_on_so went prints =
      ap (λ (runner : Runner). record { next = runner; inputs = went.inputs; prints = prints })
      (with_kept (record old { node = went.next }) number session)

  unasked_so : (prints : List Print)
      → served_at old number (unasked old.node session prints) ≡ record { next = kept old number session; inputs = []; prints = prints }
  unasked_so prints = ap (λ (runner : Runner). record { next = runner; inputs = []; prints = prints }) (with_kept old number session)

  -- octets that are no PDU
  pub fault_so : (reaction : Reaction)
      → served_at old number (on_reaction settings number old.node nothing_came session reaction)
      ≡ heeded settings number (kept old number session) (told_by reaction)
  fault_so Nothing = unasked_so []
  fault_so (Respond outgoing) = unasked_so _
  fault_so (Leave outgoing abandoned) =
      gone_on_so (all_given_up old.node abandoned) (reaction_prints settings number (Leave outgoing abandoned))
  fault_so (Ask requested) = ap (served_at old number) (unasked_by number old.node session requested 0 session.account) ∙ unasked_so []
  fault_so (Answered pushed) =
      ap (λ (went : Went). served_at old number (gone_on session went [])) (unanswered_by old.node pushed.delivery) ∙ gone_on_so (rests old.node) []

  -- and a PDU
  pub pdu_so : (pdu : Pdu) (reaction : Reaction) → ((requested : Requested) → reaction ≡ Ask requested → is_gone session.state ≡ false)
      → served_at old number (on_reaction settings number old.node (came_by settings pdu) session reaction)
      ≡ heeded settings number (kept old number session) (heard_of settings session pdu reaction)
  pdu_so pdu Nothing asks = unasked_so []
  pdu_so pdu (Respond outgoing) asks = unasked_so _
  pdu_so pdu (Leave outgoing abandoned) asks =
      gone_on_so (all_given_up old.node abandoned) (reaction_prints settings number (Leave outgoing abandoned))
  pdu_so pdu (Ask requested) asks = asked_so requested pdu.sequence session.account _ (asks requested refl) refl
  pdu_so pdu (Answered pushed) asks = gone_on_so (delivered_so old.node pushed.delivery (told_in pushed.sequence pdu)) []

-- ---- the session that is left

window_account : (session : Session) (requested : Requested) (sequence : ℕ) (ticket : Option ℕ)
    → (in_window session requested sequence ticket).account ≡ session.account
window_account session requested sequence None = refl
window_account session requested sequence (Some ticket) = by_test (can_wait session)
  where
    by_test : (can : Bool) → (cond {A = Session} can (record session {
      requests = session.requests ++ record { ticket = ticket; requested = requested; sequence = sequence } ∷ [];
    }) session).account ≡ session.account
    by_test true = refl
    by_test false = refl

request_like : (number : ℕ) (node : Node) (session : Session) (requested : Requested) (sequence : ℕ) (account : Option (List ℕ)) (request : Option Request)
    → IsLike (on_request number node session requested sequence account request).next.session session
request_like number node session requested sequence None request = itself_like session
request_like number node session requested sequence (Some account) None = itself_like session
request_like number node session requested sequence (Some account) (Some request) =
    let ticket = (step_at node (request_at node account request)).outputs.ticket in
    record { gone = window_so session requested sequence ticket; account = window_account session requested sequence ticket }

left_like : (settings : Settings) (number : ℕ) (node : Node) (came : Came) (session : Session) (reaction : Reaction)
    → IsLike (on_reaction settings number node came session reaction).next.session session
left_like settings number node came session Nothing = itself_like session
left_like settings number node came session (Respond outgoing) = itself_like session
left_like settings number node came session (Leave outgoing abandoned) = itself_like session
left_like settings number node came session (Ask requested) = request_like number node session requested came.sequence session.account came.request
left_like settings number node came session (Answered pushed) = itself_like session

serves_so : (old : Runner) (number : ℕ) (served : Served) (acted : Acted) → served_at old number served ≡ acted
    → account_at (kept_at old.sessions number served.next.session) number ≡ served.next.session.account → serves old number served ≡ then_posts number acted
serves_so old number served acted is account =
    let there = served_at old number served in
    let of : account_at there.next.sessions number ≡ served.next.session.account =
    ap (λ (runner : Runner). account_at runner.sessions number) (with_kept (record old { node = served.next.node }) number served.next.session) ∙ account in
    ap (λ (name : Option (List ℕ)). followed_by there (posts_for there.next name)) (sym of)
    ∙ ap (then_posts number) is

-- ---- a frame

module _ (settings : Settings) (number : ℕ) (old : Runner) (session : Session) where
  abbrev Serves : Done → Came → Heard → Type 0
  Serves done came heard = GoesIf (kept_at old.sessions number done.next) number (Some done.next)
      → serves old number (on_done settings number old.node came done) ≡ then_posts number (heeded settings number (kept old number done.next) heard)

  fault_served : (done : Done) → Serves done nothing_came (told_by done.reaction)
  fault_served done goes =
      let served = on_done settings number old.node nothing_came done in
      serves_so old number served _ (fault_so settings number old done.next done.reaction)
      (account_so old.sessions number served.next.session done.next (left_like settings number old.node nothing_came done.next done.reaction) goes)

  read_served : (octets : List ℕ) (read : Result Pdu PduFault)
      → GoesIf (kept_at old.sessions number (done_by settings session octets read).next) number (Some (done_by settings session octets read).next)
      → serves old number (on_read settings number old.node session octets read)
      ≡ then_posts number (heeded settings number (kept old number (done_by settings session octets read).next)
      (heard_in settings read (done_by settings session octets read)))
  read_served octets (Ok pdu) goes =
      let done = on_pdu settings.accounts session pdu in
      let came = came_by settings pdu in
      let served = on_done settings number old.node came done in
      serves_so old number served _
      (pdu_so settings number old done.next pdu done.reaction (λ requested asks. left_open settings.accounts session pdu requested asks))
      (account_so old.sessions number served.next.session done.next (left_like settings number old.node came done.next done.reaction) goes)
  read_served octets (Err fault) goes =
      fault_served (on_fault session fault (requested_by (command_of (word_at 4 octets))) (word_at 12 octets)) goes

  pub frame_so : (octets : List ℕ) → session_at old.sessions number ≡ Some session → Goes number (heeds settings old.sessions number octets)
      → on_frame settings number old octets
      ≡ then_posts number (heeded settings number (record old { sessions = (heeds settings old.sessions number octets).sessions })
      (heeds settings old.sessions number octets).heard)
  unfolding on_frame
  frame_so octets stands goes =
      ap (λ (found : Option Session). serves old number (on_read settings number old.node (session_or_opened found) octets (read_pdu octets))) stands
      ∙ read_served octets (read_pdu octets) (subst (λ (found : Option Session). Goes number (heeds_if settings old.sessions number octets found)) stands goes)
      ∙ sym (ap (λ (found : Option Session). then_posts number (heeded settings number
      (record old { sessions = (heeds_if settings old.sessions number octets found).sessions }) (heeds_if settings old.sessions number octets found).heard))
      stands)

  pub end_so : session_at old.sessions number ≡ Some session → Goes number (ends_at old.sessions number)
      → ends settings number old
      ≡ then_posts number (heeded settings number (record old { sessions = (ends_at old.sessions number).sessions }) (ends_at old.sessions number).heard)
  end_so stands goes =
      ap (λ (found : Option Session). serves old number (on_done settings number old.node nothing_came (on_wrong_length (session_or_opened found)))) stands
      ∙ fault_served (on_wrong_length session) (subst (λ (found : Option Session). Goes number (ends_if old.sessions number found)) stands goes)
      ∙ sym (ap (λ (found : Option Session). then_posts number (heeded settings number
      (record old { sessions = (ends_if old.sessions number found).sessions }) (ends_if old.sessions number found).heard)) stands)
