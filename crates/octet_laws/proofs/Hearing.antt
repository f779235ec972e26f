-- What octets that come on a session leave of the requests that wait there, and at the other sessions.
use Rattle.std.proofs.Common.{◌≡◌, ◌⊎◌, ℕ, ◌<◌, Bool, true, false, cond, List, [], ◌∷◌, ◌++◌, Option, Some, None, Result, Ok, Err, refl}
use Rattle.std.proofs.Common.{sym, ◌∙◌, ap, subst, inl, inr, arith}
use Rattle.std.specs.Prelude.{if◌then◌else◌}
use Rattle.std.specs.Str.{bytes_eq}
use Rattle.accounts.specs.Accounts.{account_of, bind_refusal}
use Rattle.accounts.specs.declared.account.Account.{Account}
use Rattle.accounts.specs.declared.role.Role.{Role}
use Rattle.accounts.specs.declared.role.Role.TheVariants as roles
use Rattle.accounts.specs.declared.route.Route.{Route}
use Rattle.mc_model.specs.synod.Lists.{In}
use Rattle.mc_model.specs.node.Actor.{Cancel, Query, Request as Waited}
use Rattle.mc_model.specs.node.Input.{Arrival, Restart}
use Rattle.mc_parts.proofs.Membership.{in_two}
use Rattle.mc_types.specs.Texts.{id_in}
use Rattle.mc_types.proofs.Texts.{ids_and_texts}
use Rattle.node_model.specs.Kept.{Held, Kept}
use Rattle.node_model.specs.Outputs.{Stepped as NodeStep}
use Rattle.node_model.specs.Requests.{ticket_of}
use Rattle.pdu_bodies.specs.declared.pdu.Bind.{Bind}
use Rattle.pdu_bodies.specs.declared.pdu.Body.{Body}
use Rattle.pdu_bodies.specs.declared.pdu.Body.TheVariants as bodies
use Rattle.pdu_bodies.specs.declared.pdu.Cancel.{Cancel as CancelBody}
use Rattle.pdu_bodies.specs.declared.pdu.Message.{Message}
use Rattle.pdu_bodies.specs.declared.pdu.Pdu.{Pdu}
use Rattle.pdu_bodies.specs.declared.pdu.Query.{Query as QueryBody}
use Rattle.pdu_codec.specs.Bodies.{command_in}
use Rattle.pdu_codec.specs.Grammar.{word_at}
use Rattle.pdu_codec.specs.Pdu.{read_pdu}
use Rattle.pdu_fields.specs.declared.fault.PduFault.{PduFault}
use Rattle.pdu_fields.specs.declared.fault.PduFault.TheVariants as faults
use Rattle.pdu_tables.specs.CommandCodes.{command_code, command_of}
use Rattle.pdu_tables.specs.declared.status.Status.{Status}
use Rattle.pdu_tables.specs.declared.status.Status.TheVariants as statuses
use Rattle.sessions.specs.Session.{Session}
use Rattle.sessions.specs.States.{bound_as, is_gone}
use Rattle.sessions.specs.Responses.{requested_by}
use Rattle.sessions.specs.Steps.{Done, bind_in, request_in, binds_by, binds_unless, can_wait, on_cell, on_fault, on_pdu, leaves, on_wrong_length, stays}
use Rattle.sessions.specs.Table.{Answers, Asks, Binds, Cell, Drops, Links, NotServed, Refuses, Unbinds, cell_of}
use Rattle.sessions.specs.declared.pushed.Pushed.{Pushed}
use Rattle.sessions.specs.declared.reaction.Reaction.{Reaction}
use Rattle.sessions.specs.declared.reaction.Reaction.TheVariants as reactions
use Rattle.sessions.specs.declared.request.OpenRequest.{OpenRequest}
use Rattle.sessions.specs.declared.requested.Requested.{Requested}
use Rattle.sessions.specs.declared.response.Outgoing.{Outgoing}
use Rattle.sessions.specs.declared.response.Response.TheVariants.{Nack}
use Rattle.desk.specs.Desk.{is_too_long}
use Rattle.desk.specs.Admissions.{about, admitted, asks_about, routed_as, submitted_as, taken_as}
use Rattle.desk.specs.Arrivals.{door_at, judged_as, next_id}
use Rattle.desk.specs.Times.{Times}
use Rattle.desk.specs.declared.door.Door.{Door}
use Rattle.desk.specs.declared.request.Request.{Request}
use Rattle.desk.specs.declared.request.Request.TheVariants as asked
use Rattle.script_text.specs.Node.{Node, step_at}
use Rattle.script_text.specs.Prints.{Gone, Print}
use Rattle.script_text.specs.Responses.{refused_with}
use Rattle.script_text.specs.Runner.{Came, Served, came_by, in_window, nothing_came, on_done}
use Rattle.script_text.specs.Runner.{on_reaction, on_read, on_request}
use Rattle.script_text.specs.Runner.{refusal_prints, request_of, unasked}
use Rattle.script_text.specs.Settings.{Settings}
use Rattle.world_fates.proofs.Windows.{ComesOf, fault_so, pdu_so, wrong_length_so}
use Rattle.octet_laws.proofs.AtOnce.{IsNoDeletion, SaysNone, asked_for, fault_none, length_none, pdu_none, request_none}
use Rattle.octet_laws.proofs.Holding.{StepSo, stepped_so}
use Rattle.octet_laws.proofs.Ties.{GoesOn, IsPlain, Names, all_on}
use Rattle.octet_laws.proofs.Ties.{delivered_on, on_same, step_on}

-- ---- a session goes only if its end is told

abbrev IsLeaving : Reaction → Type 0
IsLeaving reactions.Nothing = ⊥
IsLeaving (reactions.Respond outgoing) = ⊥
IsLeaving (reactions.Leave outgoing abandoned) = Unit {0}
IsLeaving (reactions.Ask requested) = ⊥
IsLeaving (reactions.Answered pushed) = ⊥

abbrev GoesSo : Session → Done → Type 0
GoesSo session done = is_gone session.state ≡ false → is_gone done.next.state ≡ true → IsLeaving done.reaction

pub not_both : {A : Type 0} (test : Bool) → test ≡ false → test ≡ true → A
not_both test is also = absurd (let both : false ≡ true = sym is ∙ also in cc)

role_stays : (role : Role) → is_gone (bound_as role) ≡ false
role_stays roles.Transmitter = refl
role_stays roles.Receiver = refl
role_stays roles.Transceiver = refl

binds_goes : (session : Session) (sequence : ℕ) (role : Role) (bind : Bind) (refusal : Option Status) →
    GoesSo session (binds_unless refusal session sequence role bind)
binds_goes session sequence role bind None stands gone = not_both (is_gone (bound_as role)) (role_stays role) gone
binds_goes session sequence role bind (Some status) stands gone = not_both (is_gone session.state) stands gone

bind_goes : (accounts : List Account) (session : Session) (sequence : ℕ) (role : Role) (bind : Option Bind) →
    GoesSo session (binds_by accounts session sequence role bind)
bind_goes accounts session sequence role None = λ stands gone. not_both (is_gone session.state) stands gone
bind_goes accounts session sequence role (Some bind) =
    binds_goes session sequence role bind (bind_refusal (account_of accounts bind.system_id) role bind)

cell_goes : (accounts : List Account) (session : Session) (pdu : Pdu) (cell : Cell) → GoesSo session (on_cell accounts session pdu cell)
cell_goes accounts session pdu (Binds role) = bind_goes accounts session pdu.sequence role (bind_in pdu.body)
cell_goes accounts session pdu (Refuses status) = λ stands gone. not_both (is_gone session.state) stands gone
cell_goes accounts session pdu Asks = λ stands gone. not_both (is_gone session.state) stands gone
cell_goes accounts session pdu Unbinds = λ stands gone. tt
cell_goes accounts session pdu Links = λ stands gone. not_both (is_gone session.state) stands gone
cell_goes accounts session pdu NotServed = λ stands gone. not_both (is_gone session.state) stands gone
cell_goes accounts session pdu Answers = λ stands gone. not_both (is_gone session.state) stands gone
cell_goes accounts session pdu Drops = λ stands gone. not_both (is_gone session.state) stands gone

length_goes : (session : Session) → GoesSo session (on_wrong_length session)
length_goes session stands gone = by_test (is_gone session.state) stands
  where
    by_test : (test : Bool) → test ≡ false →
        IsLeaving (if test then stays session reactions.Nothing else leaves session 0 (Nack statuses.InvalidCommandLength)).reaction
    by_test true is = absurd cc
    by_test false is = tt

fault_goes : (session : Session) (fault : PduFault) (requested : Option Requested) (sequence : ℕ) → GoesSo session (on_fault session fault requested sequence)
fault_goes session faults.Length requested sequence = length_goes session
fault_goes session fault requested sequence = λ stands gone. not_both (is_gone session.state) stands gone

-- ---- what waits of a request names what the request does

taken_names : (body : Body) (next : ℕ) (account target : List ℕ) (message : Message) (times : Result Times Status) (waited : Waited) →
    taken_as next account target message times ≡ Ok waited → Names body waited
taken_names body next account target message (Ok times) waited is = subst (Names body) (the_request _ waited is) tt
  where
    the_request : (one other : Waited) → ◌≡◌ {A = Result Waited Status} (Ok one) (Ok other) → one ≡ other
    the_request one other is = cc
taken_names body next account target message (Err status) waited is = absurd cc

submit_names : (body : Body) (door : Door) (next : ℕ) (account : List ℕ) (message : Message) (target : Option (List ℕ)) (waited : Waited) →
    submitted_as door next account message target ≡ Ok waited → Names body waited
submit_names body door next account message target waited is = by_length (is_too_long message) target is
  where
    by_length : (long : Bool) (target : Option (List ℕ)) →
        cond long (Err statuses.InvalidMessageLength) (routed_as door next account message target) ≡ Ok waited → Names body waited
    by_length true target is = absurd cc
    by_length false None is = absurd cc
    by_length false (Some target) is = taken_names body next account target message _ waited is

asks_names : (body : Body) (ask : ℕ → Waited) (busy : Bool) (found : Option ℕ) (waited : Waited) → asks_about ask (about busy found) ≡ Ok waited →
    ((id : ℕ) → found ≡ Some id → Names body (ask id)) → Names body waited
asks_names body ask busy None waited is names = absurd cc
asks_names body ask true (Some id) waited is names = absurd cc
asks_names body ask false (Some id) waited is names = subst (Names body) (the_request (ask id) waited is) (names id refl)
  where
    the_request : (one other : Waited) → ◌≡◌ {A = Result Waited Status} (Ok one) (Ok other) → one ≡ other
    the_request one other is = cc

of_cancel : (routes : List Route) (body : Body) (cancel : CancelBody) → request_of routes body ≡ Some (asked.Cancel cancel) → body ≡ bodies.CancelSm cancel
of_cancel routes (bodies.CancelSm other) cancel is = ap bodies.CancelSm (same other is)
  where
    same : (other : CancelBody) → Some (asked.Cancel other) ≡ Some (asked.Cancel cancel) → other ≡ cancel
    same other is = cc
of_cancel routes other cancel is = absurd cc

of_query : (routes : List Route) (body : Body) (query : QueryBody) → request_of routes body ≡ Some (asked.Ask query) → body ≡ bodies.QuerySm query
of_query routes (bodies.QuerySm other) query is = ap bodies.QuerySm (same other is)
  where
    same : (other : QueryBody) → Some (asked.Ask other) ≡ Some (asked.Ask query) → other ≡ query
    same other is = cc
of_query routes other query is = absurd cc

-- the command_id of a request
of_request : (routes : List Route) (body : Body) (request : Request) → request_of routes body ≡ Some request →
    command_code (command_in body) < 0x80000000
of_request routes (bodies.SubmitSm message) request is = omega arith
of_request routes (bodies.QuerySm query) request is = omega arith
of_request routes (bodies.CancelSm cancel) request is = omega arith
of_request routes other request is = absurd cc

admits : (routes : List Route) (body : Body) (door : Door) (next : ℕ) (account : List ℕ) (request : Request) (waited : Waited) →
    request_of routes body ≡ Some request → admitted door next account request ≡ Ok waited → Names body waited
admits routes body door next account (asked.Submit message target) waited brings is = submit_names body door next account message target waited is
admits routes body door next account (asked.Ask query) waited brings is =
    asks_names body (λ id. Query id account query.source.digits) door.busy (id_in query.message_id) waited is
    (λ id found. (query, of_query routes body query brings, sym ((ids_and_texts query.message_id id).0 found).1))
admits routes body door next account (asked.Cancel cancel) waited brings is = by_test (bytes_eq cancel.message_id []) is
  where
    by_test : (test : Bool) → (if test then Err statuses.CancelFailed
        else asks_about (λ id. Cancel id account cancel.source.digits cancel.destination.digits) (about door.busy (id_in cancel.message_id))) ≡ Ok waited →
        Names body waited
    by_test true is = absurd cc
    by_test false is =
        asks_names body (λ id. Cancel id account cancel.source.digits cancel.destination.digits) door.busy (id_in cancel.message_id) waited is
        (λ id found. (cancel, of_cancel routes body cancel brings, sym ((ids_and_texts cancel.message_id id).0 found).1))

-- ---- a frame is served

-- it came in this frame, and waits under the next ticket
pub record IsBegun (frame : List ℕ) (kept next : Kept) (request : OpenRequest) : Type 0 where
  pub below : request.ticket < next.ticket
  pub pdu : Pdu
  pub reads : read_pdu frame ≡ Ok pdu
  pub sequence_is : pdu.sequence ≡ request.sequence
  pub asks : command_code (command_in pdu.body) < 0x80000000
  pub names : ((h : Held) → In h kept.held → ticket_of h < kept.ticket) → (h : Held) → In h next.held → ticket_of h ≡ request.ticket →
      Names pdu.body h.waiting.request

pub record ServedSo (frame : List ℕ) (node : Node) (before : Session) (at : ℕ) (served : Served) : Type 0 where
  pub on : GoesOn node.kept served.next.node.kept
  pub requests : (request : OpenRequest) → In request served.next.session.requests →
      In request before.requests ⊎ IsBegun frame node.kept served.next.node.kept request
  pub gone : is_gone before.state ≡ false → is_gone served.next.session.state ≡ true → In (Gone at) served.prints
  pub prints : (print : Print) → In print served.prints → IsPlain print ⊎ ((print ≡ Gone at) × (is_gone served.next.session.state ≡ true))

module _ (frame : List ℕ) (node : Node) (at : ℕ) (before : Session) where
  unasked_so : (done : Done) → ((request : OpenRequest) → In request done.next.requests → In request before.requests) → GoesSo before done →
      (IsLeaving done.reaction → ⊥) → (prints : List Print) → ((print : Print) → In print prints → IsPlain print) →
      ServedSo frame node before at (unasked node done.next prints)
  unasked_so done less goes stay prints plain = record {
    on = on_same node.kept;
    requests = λ request among. inl (less request among);
    gone = λ stands is. absurd (stay (goes stands is));
    prints = λ print among. inl (plain print among);
  }

  no_start : (judged : Result Waited Status) (lost : ℕ) → Restart lost ≡ judged_as judged → ⊥
  no_start (Ok request) lost is = cc
  no_start (Err status) lost is = cc

  arrives : (judged : Result Waited Status) (waited : Waited) → judged_as judged ≡ Arrival waited → judged ≡ Ok waited
  arrives (Ok request) waited is = ap Ok (same request is)
    where
      same : (request : Waited) → Arrival request ≡ Arrival waited → request ≡ waited
      same request is = cc
  arrives (Err status) waited is = absurd cc

  refusal_plain : (requested : Requested) (sequence : ℕ) (refused : Option ℕ) →
      ((status : ℕ) → refused ≡ Some status → IsNoDeletion (refused_with requested sequence status)) → (print : Print) →
      In print (refusal_prints at requested sequence refused) → IsPlain print
  refusal_plain requested sequence None none print among = absurd among
  refusal_plain requested sequence (Some status) none print (inl same) = subst IsPlain (sym same) (none status refl)
  refusal_plain requested sequence (Some status) none print (inr nothing) = absurd nothing

  -- a request waits at the node
  module _ (settings : Settings) (pdu : Pdu) (reads : read_pdu frame ≡ Ok pdu) (requested : Requested) (account : List ℕ) (request : Request)
      (brings : request_of settings.routes pdu.body ≡ Some request) (asks : request_in pdu ≡ Some requested) where
    abbrev judged : Result Waited Status
    judged = admitted (door_at node.setup node.kept) (next_id node.setup node.kept) account request

    abbrev step : NodeStep
    step = step_at node (judged_as judged)

    so : StepSo (judged_as judged) node.kept step
    so = stepped_so node.setup node.kept (judged_as judged) (no_start judged)

    begun : (ticket : ℕ) → step.outputs.ticket ≡ Some ticket →
        IsBegun frame node.kept step.kept (record { ticket = ticket; requested = requested; sequence = pdu.sequence })
    begun ticket is =
        let it = so.given ticket is in
        record {
          below = (let same = it.ticket_is in let below = it.below in omega (arith, same, below));
          pdu = pdu;
          reads = reads;
          sequence_is = refl;
          asks = of_request settings.routes pdu.body request brings;
          names = λ given h among same. elim (so.held h among) [
            | inl old ↦
                absurd (let below = given old.from old.among in let first = old.ticket in let next = it.ticket_is in omega (arith, same, below, first, next))
            | inr new ↦
                admits settings.routes pdu.body _ _ account request h.waiting.request brings (arrives judged h.waiting.request new.request)
          ];
        }

    window_so : (session : Session) → ((waits : OpenRequest) → In waits session.requests → In waits before.requests) → (ticket : Option ℕ) →
        step.outputs.ticket ≡ ticket → (waits : OpenRequest) → In waits (in_window session requested pdu.sequence ticket).requests →
        In waits before.requests ⊎ IsBegun frame node.kept step.kept waits
    window_so session less None is waits among = inl (less waits among)
    window_so session less (Some ticket) is waits among = by_test (can_wait session) among
      where
        new : OpenRequest
        new = record { ticket = ticket; requested = requested; sequence = pdu.sequence }

        by_test : (can : Bool) → In waits (if can then record session { requests = session.requests ++ new ∷ [] } else session).requests →
            In waits before.requests ⊎ IsBegun frame node.kept step.kept waits
        by_test true among = elim (in_two waits session.requests new among) [
          | inl old ↦ inl (less waits old)
          | inr same ↦ inr (subst (IsBegun frame node.kept step.kept) (sym same) (begun ticket is))
        ]
        by_test false among = inl (less waits among)

    window_state : (session : Session) (ticket : Option ℕ) → (in_window session requested pdu.sequence ticket).state ≡ session.state
    window_state session None = refl
    window_state session (Some ticket) = by_test (can_wait session)
      where
        by_test : (can : Bool) → (cond {A = Session} can
            (record session { requests = session.requests ++ record { ticket = ticket; requested = requested; sequence = pdu.sequence } ∷ [] })
            session).state ≡ session.state
        by_test true = refl
        by_test false = refl

    asked_so : (session : Session) → ((waits : OpenRequest) → In waits session.requests → In waits before.requests) →
        (is_gone before.state ≡ false → is_gone session.state ≡ false) →
        ServedSo frame node before at (on_request at node session requested pdu.sequence (Some account) (Some request))
    asked_so session less stays_here = record {
      on = step_on (judged_as judged) node.kept step so;
      requests = window_so session less step.outputs.ticket refl;
      gone = λ stands is. not_both (is_gone session.state) (stays_here stands) (ap is_gone (sym (window_state session step.outputs.ticket)) ∙ is);
      prints = λ print among.
          inl (refusal_plain requested pdu.sequence step.outputs.refused
          (λ status. request_none settings.routes pdu node requested _ _ account request brings asks status pdu.sequence) print among);
    }

  reaction_so : (settings : Settings) (came : Came) (done : Done) → ((request : OpenRequest) → In request done.next.requests → In request before.requests) →
      GoesSo before done → ((outgoing : Outgoing) (abandoned : List Pushed) → done.reaction ≡ reactions.Leave outgoing abandoned →
      is_gone done.next.state ≡ true) →
      SaysNone settings.system_id done.reaction →
      ((requested : Requested) (account : List ℕ) (request : Request) → came.request ≡ Some request → done.reaction ≡ reactions.Ask requested →
      (is_gone before.state ≡ false → is_gone done.next.state ≡ false) →
      ServedSo frame node before at (on_request at node done.next requested came.sequence (Some account) (Some request))) →
      (reaction : Reaction) → done.reaction ≡ reaction → ServedSo frame node before at (on_reaction settings at node came done.next reaction)
  reaction_so settings came done less goes leaves says asks reactions.Nothing is =
      unasked_so done less goes (λ leaving. subst IsLeaving is leaving) [] (λ print among. absurd among)
  reaction_so settings came done less goes leaves says asks (reactions.Respond outgoing) is =
      unasked_so done less goes (λ leaving. subst IsLeaving is leaving) _
      (λ print among. elim among [ inl same ↦ subst IsPlain (sym same) (subst (SaysNone settings.system_id) is says) | inr none ↦ absurd none ])
  reaction_so settings came done less goes leaves says asks (reactions.Ask requested) is = by_both done.next.account came.request refl
    where
      stay : is_gone before.state ≡ false → is_gone done.next.state ≡ false
      stay stands = by_test (is_gone done.next.state) refl
        where
          by_test : (test : Bool) → is_gone done.next.state ≡ test → test ≡ false
          by_test true gone = absurd (subst IsLeaving is (goes stands gone))
          by_test false gone = refl

      none : (print : Print) → In print [] → IsPlain print
      none print among = absurd among

      by_both : (account : Option (List ℕ)) (request : Option Request) → came.request ≡ request →
          ServedSo frame node before at (on_request at node done.next requested came.sequence account request)
      by_both None request same = unasked_so done less goes (λ leaving. subst IsLeaving is leaving) [] none
      by_both (Some account) None same = unasked_so done less goes (λ leaving. subst IsLeaving is leaving) [] none
      by_both (Some account) (Some request) same = asks requested account request same is stay
  reaction_so settings came done less goes leaves says asks (reactions.Answered pushed) is = record {
    on = delivered_on node pushed.delivery (came.outcome pushed.sequence);
    requests = λ request among. inl (less request among);
    gone = λ stands gone. absurd (subst IsLeaving is (goes stands gone));
    prints = λ print among. absurd among;
  }
  reaction_so settings came done less goes leaves says asks (reactions.Leave outgoing abandoned) is = record {
    on = all_on node abandoned;
    requests = λ request among. inl (less request among);
    gone = λ stands gone. inr (inl refl);
    prints = λ print among. elim among [
      | inl same ↦ inl (subst IsPlain (sym same) (subst (SaysNone settings.system_id) is says))
      | inr (inl same) ↦ inr (same, leaves outgoing abandoned is)
      | inr (inr none) ↦ absurd none
    ];
  }

  faults_so : (settings : Settings) (done : Done) → ComesOf before done → GoesSo before done → SaysNone settings.system_id done.reaction →
      ServedSo frame node before at (on_done settings at node nothing_came done)
  faults_so settings done comes goes says =
      reaction_so settings nothing_came done comes.less goes comes.leaves says (λ requested account request is. absurd (never request is)) done.reaction refl
    where
      never : (request : Request) → None ≡ Some request → ⊥
      never request is = cc

  pub length_so : (settings : Settings) → ServedSo frame node before at (on_done settings at node nothing_came (on_wrong_length before))
  length_so settings = faults_so settings (on_wrong_length before) (wrong_length_so before) (length_goes before) (length_none settings.system_id before)

  pub read_so : (settings : Settings) (read : Result Pdu PduFault) → read_pdu frame ≡ read →
      ServedSo frame node before at (on_read settings at node before frame read)
  read_so settings (Ok pdu) is =
      let done = on_pdu settings.accounts before pdu in
      let comes = pdu_so settings.accounts before pdu in
      reaction_so settings (came_by settings pdu) done comes.less
      (cell_goes settings.accounts before pdu (cell_of (command_in pdu.body) before.state)) comes.leaves
      (pdu_none settings.system_id settings.accounts before pdu)
      (λ requested account request brings asks stay.
      asked_so settings pdu is requested account request brings (asked_for settings.accounts before pdu requested asks) done.next comes.less stay)
      done.reaction refl
  read_so settings (Err fault) is =
      let requested = requested_by (command_of (word_at 4 frame)) in
      let sequence = word_at 12 frame in
      faults_so settings (on_fault before fault requested sequence) (fault_so before fault requested sequence) (fault_goes before fault requested sequence)
      (fault_none settings.system_id before fault requested sequence)

-- a wrong length ends a session, and that is told
pub length_told : (node : Node) (at : ℕ) (settings : Settings) (before : Session) → is_gone before.state ≡ false →
    In (Gone at) (on_done settings at node nothing_came (on_wrong_length before)).prints
length_told node at settings before stands = by_test (is_gone before.state) stands
  where
    by_test : (test : Bool) → test ≡ false → In (Gone at) (on_done settings at node nothing_came
        (if test then stays before reactions.Nothing else leaves before 0 (Nack statuses.InvalidCommandLength))).prints
    by_test true is = absurd cc
    by_test false is = inr (inl refl)
