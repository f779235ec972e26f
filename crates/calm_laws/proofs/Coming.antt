-- One frame of a calm script: the runner and the one node answer it alike.
use Rattle.std.proofs.Common.{◌≡◌, ℕ, suc, Bool, true, false, List, [], Option, Some, None, Result, Ok, Err, inl, inr, refl, sym, ap, subst}
use Rattle.std.specs.Prelude.{is_some}
use Rattle.std.specs.Ordering.{nat_cmp}
use Rattle.std.specs.BTreeMap.{insert_entry}
use Rattle.mc_types.specs.Texts.{id_in}
use Rattle.node_model.specs.Kept.{Kept}
use Rattle.accounts.specs.Routes.{target_of}
use Rattle.accounts.specs.declared.account.Account.{Account}
use Rattle.pdu_tables.specs.CommandCodes.{command_of}
use Rattle.pdu_codec.specs.Grammar.{word_at}
use Rattle.pdu_codec.specs.Pdu.{read_pdu}
use Rattle.pdu_fields.specs.declared.fault.PduFault.{PduFault}
use Rattle.pdu_fields.specs.declared.fault.PduFault.TheVariants as faults
use Rattle.pdu_bodies.specs.declared.pdu.Body.{Body}
use Rattle.pdu_bodies.specs.declared.pdu.Body.TheVariants as bodies
use Rattle.pdu_bodies.specs.declared.pdu.Pdu.{Pdu}
use Rattle.sessions.specs.Session.{Session}
use Rattle.sessions.specs.Responses.{requested_by}
use Rattle.sessions.specs.Steps.{Done, on_fault, on_pdu}
use Rattle.sessions.specs.declared.pushed.Pushed.{Pushed}
use Rattle.sessions.specs.declared.request.OpenRequest.{OpenRequest}
use Rattle.sessions.specs.declared.requested.Requested.TheVariants as requests
use Rattle.sessions.specs.declared.response.Outgoing.{Outgoing}
use Rattle.desk.specs.declared.request.Request.TheVariants as asked
use Rattle.script_text.specs.Settings.{Settings}
use Rattle.script_text.specs.Node.{Node}
use Rattle.script_text.specs.Runner.{Owned, Runner, came_by, nothing_came, on_done, on_frame, on_read, serves, session_in}
use Rattle.script_text.specs.Runner as runner
use Rattle.script_text.specs.Events.{Comes}
use Rattle.script_text.specs.OneNode.{OneNode, account_at, came, happens}
use Rattle.script_text.specs.Calm.{Stir, Still, Stirs, Never, body_stir, may_happen, quiet_by, read_stir, stirs_if}
use Rattle.calm_laws.proofs.Answering.{answer_comes, fit_session}
use Rattle.calm_laws.proofs.Asking.{request_comes}
use Rattle.calm_laws.proofs.Came.{Came, reacted_by}
use Rattle.calm_laws.proofs.Plain.{holding, like, plain_is, put_but}
use Rattle.calm_laws.proofs.Reacting.{AreAlike, IsForNode, fault_alike, out_of, pdu_alike}
use Rattle.calm_laws.proofs.Running.{Runs}
use Rattle.calm_laws.proofs.Serving.{AreServed, serve_leaves}
use Rattle.calm_laws.proofs.Standing.{Agree, AreQuiet, IsQuiet, fewer, node_of, quiet_now, refit, requests_at}
use Rattle.calm_laws.proofs.Windows.{same_waits}

-- ---- what is answered at once

module _ (settings : Settings) (first left number : ℕ) (one : OneNode) (quiet : Bool) (owned : Option Owned) (node : Node)
    (agree : Agree settings first left one owned node) (still : IsQuiet quiet owned node) (came : runner.Came) where
  abbrev session : Session
  session = session_in one.sessions number

  abbrev waiting : List OpenRequest
  waiting = requests_at owned number

  -- what a session does here and there leaves both alike
  abbrev LeaveAlike : Done → Done → Type 0
  LeaveAlike ours theirs =
      Came settings first left number quiet one owned (on_done settings number node came ours) (reacted_by settings one number came theirs)
      theirs.next.account

  abbrev ours_of : Session → Option Outgoing → Done
  ours_of next out = record { next = holding next waiting; reaction = out_of out }

  abbrev theirs_of : Session → Option Outgoing → Done
  theirs_of next out = record { next = next; reaction = out_of out }

  out_comes : (ours theirs : Done) (alike : AreAlike session waiting ours theirs) (out : Option Outgoing) → (out ≡ None → alike.next ≡ session) →
      LeaveAlike (ours_of alike.next out) (theirs_of alike.next out)
  out_comes ours theirs alike None silent = record {
    holds = owned;
    agree = agree;
    session = ap (λ (s : Session). holding s waiting) (silent refl);
    bound = refl;
    prints = refl;
    others = λ other differ. refl;
    requests = λ other differ. refl;
    waiting = refl;
    still = still;
  }
  out_comes ours theirs alike (Some outgoing) silent =
      let now = insert_entry nat_cmp one.sessions number alike.next in
      let but = put_but number one.sessions alike.next in
      record {
        holds = owned;
        agree =
            refit settings first left one owned node now one.waiting agree
            (fit_session one number alike.next agree.fit alike.plain
            (same_waits one.node.table one.sessions now agree.fit.waiting number alike.next but alike.pushed));
        session = ap (λ (s : Session). holding s waiting) (sym but.it);
        bound = refl;
        prints = refl;
        others = but.others;
        requests = λ other differ. refl;
        waiting = refl;
        still = still;
      }

  done_comes : (ours theirs : Done) → AreAlike session waiting ours theirs → LeaveAlike ours theirs
  done_comes ours theirs alike =
      subst (λ (done : Done). LeaveAlike done theirs) (sym alike.ours_is)
      (subst (LeaveAlike (ours_of alike.next alike.out)) (sym alike.theirs_is) (out_comes ours theirs alike alike.out alike.silent))

-- ---- a PDU

quiet_kept : (quiet : Bool) (stir : Stir) (owned : Option Owned) (node : Node) → IsQuiet quiet owned node → IsQuiet (quiet_by quiet stir) owned node
quiet_kept quiet Still owned node is_quiet = is_quiet
quiet_kept quiet Stirs owned node is_quiet = tt
quiet_kept quiet Never owned node is_quiet = is_quiet

-- what is for the node may come while it is quiet alone, and then it is quiet no longer
named_stirs : (named : Bool) → may_happen true (stirs_if named) ≡ true → quiet_by true (stirs_if named) ≡ false
named_stirs true may = refl
named_stirs false may = absurd cc

never_named : (named : Bool) → may_happen false (stirs_if named) ≡ true → ⊥
never_named true may = cc
never_named false may = cc

stirs_then : (accounts : List Account) (account : Option (List ℕ)) (body : Body) → IsForNode account body →
    may_happen true (body_stir accounts account body) ≡ true → quiet_by true (body_stir accounts account body) ≡ false
stirs_then accounts (Some name) (bodies.SubmitSm message) is_for may = refl
stirs_then accounts (Some name) (bodies.QuerySm query) is_for may = named_stirs (is_some (id_in query.message_id)) may
stirs_then accounts (Some name) (bodies.CancelSm cancel) is_for may = named_stirs (is_some (id_in cancel.message_id)) may
stirs_then accounts account (bodies.DeliverSmResp message_id) is_for may = refl
stirs_then accounts account bodies.GenericNack is_for may = refl
stirs_then accounts account other is_for may = absurd is_for

never_then : (accounts : List Account) (account : Option (List ℕ)) (body : Body) → IsForNode account body →
    may_happen false (body_stir accounts account body) ≡ true → ⊥
never_then accounts (Some name) (bodies.SubmitSm message) is_for may = cc
never_then accounts (Some name) (bodies.QuerySm query) is_for may = never_named (is_some (id_in query.message_id)) may
never_then accounts (Some name) (bodies.CancelSm cancel) is_for may = never_named (is_some (id_in cancel.message_id)) may
never_then accounts account (bodies.DeliverSmResp message_id) is_for may = cc
never_then accounts account bodies.GenericNack is_for may = cc
never_then accounts account other is_for may = is_for

module _ (settings : Settings) (first left number : ℕ) (one : OneNode) where
  -- what a PDU of this body leaves, on a session that is this for the one node, if it is quiet then or not
  abbrev BodyLeaves : Bool → Option Owned → Node → Session → Pdu → Body → Type 0
  BodyLeaves quiet owned node session pdu body =
      Came settings first left number quiet one owned
      (on_done settings number node (came_by settings (record pdu { body = body }))
      (on_pdu settings.accounts (holding session (requests_at owned number)) (record pdu { body = body })))
      (reacted_by settings one number (came_by settings (record pdu { body = body })) (on_pdu settings.accounts session (record pdu { body = body })))
      (on_pdu settings.accounts session (record pdu { body = body })).next.account

  -- ---- it is for the node

  module _ (k : Kept) (quiet : AreQuiet settings first (suc left) one (node_of settings first k)) (version next : ℕ) (pushed : List Pushed) (pdu : Pdu) where
    for_node : (account : Option (List ℕ)) → like account version pushed next [] ≡ session_in one.sessions number → (body : Body) → IsForNode account body →
        BodyLeaves false None (node_of settings first k) (like account version pushed next []) pdu body
    for_node (Some name) is (bodies.SubmitSm message) is_for =
        request_comes settings first left number one k quiet name version next pushed is requests.SubmitSm pdu.sequence
        (asked.Submit message (target_of settings.routes message.destination.digits))
    for_node (Some name) is (bodies.QuerySm query) is_for =
        request_comes settings first left number one k quiet name version next pushed is requests.QuerySm pdu.sequence (asked.Ask query)
    for_node (Some name) is (bodies.CancelSm cancel) is_for =
        request_comes settings first left number one k quiet name version next pushed is requests.CancelSm pdu.sequence (asked.Cancel cancel)
    for_node None is (bodies.DeliverSmResp id) is_for =
        answer_comes settings first left number one k quiet None version next pushed is (came_by settings (record pdu { body = bodies.DeliverSmResp id }))
        pdu.sequence
    for_node (Some name) is (bodies.DeliverSmResp id) is_for =
        answer_comes settings first left number one k quiet (Some name) version next pushed is
        (came_by settings (record pdu { body = bodies.DeliverSmResp id })) pdu.sequence
    for_node None is bodies.GenericNack is_for =
        answer_comes settings first left number one k quiet None version next pushed is (came_by settings (record pdu { body = bodies.GenericNack }))
        pdu.sequence
    for_node (Some name) is bodies.GenericNack is_for =
        answer_comes settings first left number one k quiet (Some name) version next pushed is (came_by settings (record pdu { body = bodies.GenericNack }))
        pdu.sequence
    for_node account is other is_for = absurd is_for

  -- ---- any PDU, and octets that are none

  abbrev session_now : Session
  session_now = session_in one.sessions number

  module _ (owned : Option Owned) (node : Node) (agree : Agree settings first (suc left) one owned node) where
    abbrev BodyComes : Bool → Option Owned → Node → Pdu → Type 0
    BodyComes quiet holds at pdu =
        BodyLeaves (quiet_by quiet (body_stir settings.accounts session_now.account pdu.body)) holds at session_now pdu pdu.body

    for_comes : (quiet : Bool) (pdu : Pdu) → IsQuiet quiet owned node → IsForNode session_now.account pdu.body →
        may_happen quiet (body_stir settings.accounts session_now.account pdu.body) ≡ true → BodyComes quiet owned node pdu
    for_comes false pdu is_quiet is_for may = absurd (never_then settings.accounts session_now.account pdu.body is_for may)
    for_comes true pdu is_quiet is_for may =
        let quiet = quiet_now settings first (suc left) one owned node agree is_quiet in
        let at_rest : AreQuiet settings first (suc left) one (node_of settings first node.kept) =
        subst (AreQuiet settings first (suc left) one) quiet.node_is quiet in
        let is = plain_is session_now (agree.fit.plain number) in
        subst (λ (o : Option Owned). BodyComes true o node pdu) (sym is_quiet.0)
        (subst (λ (n : Node). BodyComes true None n pdu) (sym quiet.node_is)
        (subst (λ (b : Bool). BodyLeaves b None (node_of settings first node.kept) session_now pdu pdu.body)
        (sym (stirs_then settings.accounts session_now.account pdu.body is_for may))
        (subst (λ (s : Session). BodyLeaves false None (node_of settings first node.kept) s pdu pdu.body) is
        (for_node node.kept at_rest session_now.interface_version session_now.next_sequence session_now.pushed pdu session_now.account is pdu.body is_for))))

    module _ (quiet : Bool) (is_quiet : IsQuiet quiet owned node) where
      fewer_left : Agree settings first left one owned node
      fewer_left = fewer settings first left one owned node agree

      pdu_comes : (pdu : Pdu) → may_happen quiet (body_stir settings.accounts session_now.account pdu.body) ≡ true → BodyComes quiet owned node pdu
      pdu_comes pdu may = elim (pdu_alike session_now (agree.fit.plain number) (requests_at owned number) settings.accounts quiet pdu may) [
        | inl alike ↦
            let stir = body_stir settings.accounts session_now.account pdu.body in
            done_comes settings first left number one (quiet_by quiet stir) owned node fewer_left (quiet_kept quiet stir owned node is_quiet)
            (came_by settings pdu) _ _ alike
        | inr is_for ↦ for_comes quiet pdu is_quiet is_for may
      ]

-- ---- one frame

module _ (settings : Settings) (first left number : ℕ) (quiet : Bool) (one : OneNode) (streams : List (ℕ × List ℕ)) (runner : Runner)
    (runs : Runs settings first (suc left) quiet one streams runner) where
  abbrev its_session : Session
  its_session = session_in one.sessions number

  abbrev its_requests : List OpenRequest
  its_requests = requests_at runs.holds number

  -- what octets that are read so come to
  abbrev ReadLeaves : Session → List ℕ → Result Pdu PduFault → Type 0
  ReadLeaves session octets read =
      AreServed settings first left number (quiet_by quiet (read_stir settings.accounts (account_at one number) read)) streams
      (serves runner number (on_read settings number runner.node session octets read)) (came settings one number octets read)

  read_leaves : (octets : List ℕ) (read : Result Pdu PduFault) → (read ≡ Err faults.Length → ⊥) →
      may_happen quiet (read_stir settings.accounts (account_at one number) read) ≡ true →
      ReadLeaves (holding its_session its_requests) octets read
  read_leaves octets (Ok pdu) whole may =
      serve_leaves settings first left number (quiet_by quiet (body_stir settings.accounts its_session.account pdu.body)) one streams runner runs.holds
      runs.sessions runs.held runs.waiting
      (on_done settings number runner.node (came_by settings pdu) (on_pdu settings.accounts (holding its_session its_requests) pdu))
      (reacted_by settings one number (came_by settings pdu) (on_pdu settings.accounts its_session pdu))
      (on_pdu settings.accounts its_session pdu).next.account
      (pdu_comes settings first left number one runs.holds runner.node runs.agree quiet runs.still pdu may)
  read_leaves octets (Err fault) whole may =
      let requested = requested_by (command_of (word_at 4 octets)) in
      let sequence = word_at 12 octets in
      serve_leaves settings first left number quiet one streams runner runs.holds runs.sessions runs.held runs.waiting
      (on_done settings number runner.node nothing_came (on_fault (holding its_session its_requests) fault requested sequence))
      (reacted_by settings one number nothing_came (on_fault its_session fault requested sequence))
      (on_fault its_session fault requested sequence).next.account
      (done_comes settings first left number one quiet runs.holds runner.node
      (fewer settings first left one runs.holds runner.node runs.agree) runs.still nothing_came _ _
      (fault_alike its_session (runs.agree.fit.plain number) its_requests fault requested sequence (λ is. whole (ap Err is))))

  -- a frame comes
  pub frame_comes : (octets : List ℕ) → (read_pdu octets ≡ Err faults.Length → ⊥) →
      may_happen quiet (read_stir settings.accounts (account_at one number) (read_pdu octets)) ≡ true →
      AreServed settings first left number (quiet_by quiet (read_stir settings.accounts (account_at one number) (read_pdu octets))) streams
      (on_frame settings number runner octets) (happens settings one (Comes number octets))
  unfolding on_frame happens
  frame_comes octets whole may =
      subst (λ (session : Session). ReadLeaves session octets (read_pdu octets)) (sym (runs.sessions.each number))
      (read_leaves octets (read_pdu octets) whole may)
