-- What requests are told that come later with a sequence_number that is used for them alone.
use Rattle.std.proofs.Common.{◌≡◌, ℕ, ◌<◌, ◌^◌, ◌≤◌, Bool, true, false, List, [], ◌∷◌, ◌++◌, Option, Some, None, Result, Ok, Err, refl, sym, ◌∙◌, ap, subst}
use Rattle.std.proofs.Common.{inl, inr}
use Rattle.std.specs.Prelude.{◌≢◌, if◌then◌else◌}
use Rattle.std.specs.Fmt.{decimal}
use Rattle.std.specs.Str.{bytes_eq}
use Rattle.std.proofs.lemmas.Fmt.{decimal_injective}
use Rattle.mc_model.specs.message.Chain.{final_in}
use Rattle.mc_model.specs.message.Decree.{Decree, Final}
use Rattle.mc_model.specs.message.Ids.{IsId}
use Rattle.mc_model.specs.synod.Lists.{In}
use Rattle.mc_model.specs.node.Actor.{Cancel, Query, Request, Submit, id_in}
use Rattle.mc_model.specs.node.Input.{Input}
use Rattle.mc_model.specs.node.Outputs.{Reply}
use Rattle.mc_model.specs.node.Replies.{Shown, Unknown}
use Rattle.mc_model.specs.cluster.Steps.{Cluster}
use Rattle.mc_types.specs.Texts.{id_in as id_in_text}
use Rattle.mc_types.proofs.Texts.{ids_and_texts}
use Rattle.node_laws.specs.Clusters.{MayHappen, NodeInput, comes_to, outputs_at}
use Rattle.node_laws.proofs.cluster.Fresh.{about_asked}
use Rattle.accounts.specs.declared.route.Route.{Route}
use Rattle.pdu_tables.specs.StateCodes.{state_code}
use Rattle.pdu_tables.specs.StatusCodes.{status_code}
use Rattle.pdu_tables.specs.declared.status.Status.{Status}
use Rattle.pdu_tables.specs.declared.status.Status.TheVariants as statuses
use Rattle.pdu_bodies.specs.declared.pdu.Body.{Body}
use Rattle.pdu_bodies.specs.declared.pdu.Body.TheVariants as bodies
use Rattle.pdu_bodies.specs.declared.pdu.Cancel.{Cancel as CancelBody}
use Rattle.pdu_bodies.specs.declared.pdu.Pdu.{Pdu}
use Rattle.pdu_bodies.specs.declared.pdu.Query.{Query as QueryBody}
use Rattle.pdu_codec.specs.Pdu.{read_pdu}
use Rattle.fate_chain.specs.States.{state_of}
use Rattle.sessions.specs.declared.request.OpenRequest.{OpenRequest}
use Rattle.desk.specs.Admissions.{about, admitted, asks_about}
use Rattle.desk.specs.declared.door.Door.{Door}
use Rattle.desk.specs.declared.request.Request.{Request as Asked}
use Rattle.desk.specs.declared.request.Request.TheVariants as asked
use Rattle.script_text.specs.Laws.{StatesFate, TellsState}
use Rattle.script_text.specs.Prints.{AtOnce, Late, Print}
use Rattle.script_text.specs.Responses.{reply_pdu}
use Rattle.script_text.specs.Runner.{Runner, on_frame, request_of}
use Rattle.script_text.specs.Settings.{Settings}
use Rattle.script_text.specs.Prints.{At, WorldPrint}
use Rattle.script_text.specs.Script.{Joins, Stage}
use Rattle.script_text.specs.World.{World}
use Rattle.world_fates.proofs.node.Behind.{input_to}
use Rattle.world_fates.proofs.node.Reports.{named_small}
use Rattle.world_fates.proofs.node.StepsOut.{step_now}
use Rattle.world_fates.proofs.node.Telling.{reply_is_told}
use Rattle.world_fates.specs.Questions.{AsksState, IsAskedAt, TellsAcceptance}
use Rattle.world_fates.specs.Refusals.{NamesMessage}
use Rattle.world_fates.specs.Requests.{ComesBy, EndsIn, GoesOutOn, IsQueryOf, IsRequest, IsUsedFor}
use Rattle.world_fates.proofs.Printing.{JoinsSo, WorldSo, first_so, joined_so}
use Rattle.world_fates.proofs.Given.{GivenFrom, KnowsFate, given_takes, given_telling, given_then_so}
use Rattle.world_fates.proofs.AtOnce.{ids_known}
use Rattle.world_fates.proofs.Later.{CameSince}
use Rattle.world_fates.proofs.LaterLines.{lines_fine}
use Rattle.world_fates.proofs.Fresh.{Saying, Waited, reply_sequence, says_fate, waits_well}
use Rattle.world_fates.proofs.Accepting.{AcceptedFrom, WasAccepted, accepted_so, accepted_takes, accepted_telling, refuses_unknown, says_known}

-- ---- what waits of a query_sm, and of a cancel_sm

-- a request that was asked for by a message_id is about the message that this names
record IsAskedBy (ask : ℕ → Request) (message_id : List ℕ) (request : Request) : Type 0 where
  id : ℕ
  is_id : IsId id
  names : message_id ≡ decimal id
  request_is : request ≡ ask id

asked_by : (ask : ℕ → Request) (busy : Bool) (message_id : List ℕ) (request : Request) → asks_about ask (about busy (id_in_text message_id)) ≡ Ok request →
    IsAskedBy ask message_id request
asked_by ask busy message_id request is = by_id (id_in_text message_id) refl busy is
  where
    the_request : (id : ℕ) → ◌≡◌ {A = Result Request Status} (Ok (ask id)) (Ok request) → request ≡ ask id
    the_request id is = cc

    by_id : (found : Option ℕ) → id_in_text message_id ≡ found → (test : Bool) → asks_about ask (about test found) ≡ Ok request →
        IsAskedBy ask message_id request
    by_id None found test is = absurd cc
    by_id (Some id) found true is = absurd cc
    by_id (Some id) found false is =
        let it = (ids_and_texts message_id id).0 found in
        record { id = id; is_id = it.0; names = it.1; request_is = the_request id is }

same_id : (one other : ℕ) → IsId one → IsId other → decimal one ≡ decimal other → one ≡ other
same_id one other first last same =
    decimal_injective one other (named_small one first.node.most) (named_small other last.node.most) same

module _ (door : Door) (next : ℕ) (account : List ℕ) (request : Request) where
  query_asked : (query : QueryBody) → admitted door next account (asked.Ask query) ≡ Ok request →
      IsAskedBy (λ id. Query id account query.source.digits) query.message_id request
  query_asked query is = asked_by (λ id. Query id account query.source.digits) door.busy query.message_id request is

  cancel_asked : (cancel : CancelBody) → admitted door next account (asked.Cancel cancel) ≡ Ok request →
      IsAskedBy (λ id. Cancel id account cancel.source.digits cancel.destination.digits) cancel.message_id request
  cancel_asked cancel is = by_empty (bytes_eq cancel.message_id []) is
    where
      ask : ℕ → Request
      ask id = Cancel id account cancel.source.digits cancel.destination.digits

      by_empty : (empty : Bool) →
          (if empty then Err statuses.CancelFailed else asks_about ask (about door.busy (id_in_text cancel.message_id))) ≡ Ok request →
          IsAskedBy ask cancel.message_id request
      by_empty true is = absurd cc
      by_empty false is = asked_by ask door.busy cancel.message_id request is

  -- what waits of a query_sm of a message
  abbrev WaitsFor : List ℕ → Type 0
  WaitsFor message_id = AsksState message_id request × IsId (id_in request)

  abbrev IsWish : List Route → Body → Asked → Type 0
  IsWish routes body wish = request_of routes body ≡ Some wish

  the_wish : (one other : Asked) → Some one ≡ Some other → other ≡ one
  the_wish one other is = cc

  query_waits : (routes : List Route) (body : Body) (message_id : List ℕ) → (IsRequest body → IsQueryOf message_id body) → (wish : Asked) →
      IsWish routes body wish → admitted door next account wish ≡ Ok request → WaitsFor message_id
  query_waits routes (bodies.QuerySm query) message_id only wish is admits =
      let it = query_asked query (ap (admitted door next account) (sym (the_wish (asked.Ask query) wish is)) ∙ admits) in
      subst (λ (r : Request). AsksState message_id r × IsId (id_in r)) (sym it.request_is) (sym it.names ∙ only tt, it.is_id)
  query_waits routes (bodies.SubmitSm message) message_id only wish is admits = absurd (only tt)
  query_waits routes (bodies.CancelSm cancel) message_id only wish is admits = absurd (only tt)
  query_waits routes other message_id only wish is admits = absurd cc

  -- what waits of a query_sm or a cancel_sm of a message
  about_waits : (routes : List Route) (body : Body) (id : ℕ) → IsId id → (IsRequest body → NamesMessage id body) → (wish : Asked) → IsWish routes body wish →
      admitted door next account wish ≡ Ok request → id_in request ≡ id
  about_waits routes (bodies.QuerySm query) id is_id only wish is admits =
      let it = query_asked query (ap (admitted door next account) (sym (the_wish (asked.Ask query) wish is)) ∙ admits) in
      ap id_in it.request_is ∙ same_id it.id id it.is_id is_id (sym it.names ∙ only tt)
  about_waits routes (bodies.CancelSm cancel) id is_id only wish is admits =
      let it = cancel_asked cancel (ap (admitted door next account) (sym (the_wish (asked.Cancel cancel) wish is)) ∙ admits) in
      ap id_in it.request_is ∙ same_id it.id id it.is_id is_id (sym it.names ∙ only tt)
  about_waits routes (bodies.SubmitSm message) id is_id only wish is admits = absurd (only tt)
  about_waits routes other id is_id only wish is admits = absurd cc

about_state : (request : Request) (message_id : List ℕ) → AsksState message_id request → decimal (id_in request) ≡ message_id
about_state (Query id account source) message_id asks = asks
about_state (Submit id message) message_id asks = absurd asks
about_state (Cancel id account source destination) message_id asks = absurd asks

-- ---- with a sequence_number of its own

-- so it is of what has this sequence_number on this session
abbrev Only : ℕ → ℕ → (Request → Type 0) → ℕ → ℕ → Request → Type 0
Only session sequence Asks number other request = number ≡ session → other ≡ sequence → Asks request

abbrev OnlySays : ℕ → ℕ → (Reply → Type 0) → ℕ → OpenRequest → Reply → Type 0
OnlySays session sequence Says number waits reply = number ≡ session → waits.sequence ≡ sequence → Says reply

-- it waited in the world
waited_at : (world : World) (node number session sequence : ℕ) (waits : OpenRequest) → Waited world node number waits → number ≡ session →
    waits.sequence ≡ sequence → IsAskedAt world node session sequence
waited_at world node number session sequence waits waited here same = record {
  runner = waited.0;
  there = waited.1;
  session = waited.2.session;
  connected = subst (λ (n : ℕ). In (n, waited.2.session) waited.0.sessions) here waited.2.there;
  request = waits;
  waits = waited.2.among;
  sequence_is = same;
}

-- the message of a reply is the one that was asked for since
reply_about : (cluster : Cluster) (node : ℕ) (first past : List NodeInput) (input : Input) (ticket : ℕ) (since : CameSince cluster node first past ticket) →
    MayHappen cluster (input_to node input ∷ past) → (reply : Reply) → ticket ≡ reply.ticket →
    In reply (step_now cluster (input_to node input) past).outputs.replies → reply.id ≡ id_in since.request
reply_about cluster node first past input ticket since may reply same among =
    about_asked cluster (since.front ++ first) since.middle node ticket since.request input reply.id reply.answer
    (subst (λ (inputs : List NodeInput). MayHappen cluster (comes_to node input ∷ inputs)) since.past_is may) since.given since.lives
    (subst (λ (inputs : List NodeInput). In (record { ticket = ticket; id = reply.id; answer = reply.answer })
    (outputs_at cluster inputs (comes_to node input)).replies) since.past_is
    (subst (λ (r : Reply). In r (outputs_at cluster past (comes_to node input)).replies) reply_is among))
  where
    reply_is : reply ≡ record { ticket = ticket; id = reply.id; answer = reply.answer }
    reply_is = λ i. record { ticket = sym same i; id = reply.id; answer = reply.answer }

-- ---- query_sms

-- a reply tells of a message, and of its final state
record TellsFate (message_id : List ℕ) (final : Final) (reply : Reply) : Type 0 where
  message : decimal reply.id ≡ message_id
  fate : (chain : List Decree) → reply.answer ≡ Shown chain → final_in chain ≡ Some final

module _ (cluster : Cluster) (node session sequence : ℕ) (first : List NodeInput) (world : World) (message_id : List ℕ) (state : ℕ)
    (knows : KnowsFate cluster first message_id state) (free : IsAskedAt world node session sequence → ⊥) where
  abbrev QueryOf : Request → Type 0
  QueryOf request = AsksState message_id request × IsId (id_in request)

  says_of_query : Saying cluster node first (Waited world node) (Only session sequence QueryOf)
      (OnlySays session sequence (TellsFate message_id knows.final))
  says_of_query front past is input number waits (inl waited) may reply same among here own =
      absurd (free (waited_at world node number session sequence waits waited here own))
  says_of_query front past is input number waits (inr on) may reply same among here own =
      let since = on.since in
      let asks = on.asked here own in
      let about_it = reply_about cluster node first past input waits.ticket since may reply same among in
      let message = ap decimal about_it ∙ about_state since.request message_id asks.0 in
      let small = subst (λ (i : ℕ). i < 2 ^ 64) (sym about_it) (named_small (id_in since.request) asks.1.node.most) in
      record {
        message = message;
        fate = says_fate cluster node first knows.given.outputs knows.id knows.final knows.given.among knows.given.states past input waits.ticket since
            may reply same among (decimal_injective reply.id knows.id small knows.small (message ∙ sym knows.message));
      }

goes_out_late : (answer : Print) (number id session sequence : ℕ) (pdu : Pdu) → answer ≡ Late number id pdu → GoesOutOn answer session sequence →
    (number ≡ session) × (pdu.sequence ≡ sequence)
goes_out_late answer number id session sequence pdu is goes = subst (λ (p : Print). GoesOutOn p session sequence) is goes

pub queries_told : (settings : Settings) (before later : List (List ℕ)) (came coming : List NodeInput) (prints others : List WorldPrint) (world : World)
    (last : Stage) (here node session sequence : ℕ) (first answer : Print) (message_id also : List ℕ) (one other : ℕ) →
    Joins settings None before came prints (Some world) → Joins settings (Some world) later coming others last → 1 ≤ node →
    In (At here first) prints → StatesFate first message_id one →
    IsUsedFor (IsQueryOf message_id) settings world later node session sequence → In (At node answer) others →
    GoesOutOn answer session sequence → TellsState answer also other → (also ≡ message_id) × (other ≡ one)
queries_told settings before later came coming prints others world last here node session sequence first answer message_id also one other joins more least
    first_in states used answer_in goes tells =
    let so : WorldSo settings GivenFrom given_telling given_takes came world prints =
    first_so settings GivenFrom given_telling given_takes before came prints (Some world) joins in
    let knows = given_then_so settings came world prints so here first first_in message_id one states in
    let rest : JoinsSo so.cluster (GivenFrom so.cluster) so.past coming others last =
    joined_so settings so.cluster (GivenFrom so.cluster) (given_telling so.cluster) (given_takes so.cluster) later so.past world so.stands
    coming others last more in
    let Asks = Only session sequence (QueryOf so.cluster node session sequence so.past world message_id one knows used.free) in
    let Says = OnlySays session sequence (TellsFate message_id knows.final) in
    let says = says_of_query so.cluster node session sequence so.past world message_id one knows used.free in
    elim (lines_fine so.cluster node least so.past (Waited world node) Asks Says says settings later so.past world
    (waits_well so.cluster so.past world so.stands node least Asks Says says)
    (λ number pdu comes wish is door next account request admits here same.
    query_waits door next account request settings.routes pdu.body message_id
    (used.only pdu (subst (λ (n : ℕ). ComesBy settings world later (λ w line. EndsIn w line node n pdu)) here comes) same) wish is admits)
    coming others last more (subst (MayHappen so.cluster) rest.later_is rest.stands.fit.may) answer answer_in) [
      | inl aside ↦ absurd (aside.state also other tells)
      | inr it ↦
          let request = it.request in
          let reply = it.reply in
          let pdu = reply_pdu request.requested request.sequence reply.id reply.answer in
          let on = goes_out_late answer it.number reply.id session sequence pdu it.print_is goes in
          let said = it.so on.0 (reply_sequence request.requested request.sequence reply.id reply.answer ∙ on.1) in
          let told = (reply_is_told it.number request.requested request.sequence reply.id reply.answer).state also other
          (subst (λ (p : Print). TellsState p also other) it.print_is tells) in (
            sym told.0 ∙ said.message,
            sym told.1.code_is
                ∙ ap (λ (f : Option Final). state_code (state_of f)) (said.fate told.1.chain told.1.answer_is)
                ∙ sym knows.state_is,
          )
    ]

-- ---- requests of messages that were taken

module _ (cluster : Cluster) (node session sequence : ℕ) (first : List NodeInput) (world : World) (id : ℕ) (accepted : WasAccepted cluster first id)
    (free : IsAskedAt world node session sequence → ⊥) where
  abbrev RequestOf : Request → Type 0
  RequestOf request = id_in request ≡ id

  abbrev IsKnown : Reply → Type 0
  IsKnown reply = reply.answer ≡ Unknown → ⊥

  says_of_request : Saying cluster node first (Waited world node) (Only session sequence RequestOf) (OnlySays session sequence IsKnown)
  says_of_request front past is input number waits (inl waited) may reply same among here own =
      absurd (free (waited_at world node number session sequence waits waited here own))
  says_of_request front past is input number waits (inr on) may reply same among here own =
      says_known cluster node first id accepted past input waits.ticket on.since may reply same among
      (reply_about cluster node first past input waits.ticket on.since may reply same among ∙ on.asked here own)

late_parts : (number id other also : ℕ) (pdu late : Pdu) → Late number id pdu ≡ Late other also late → (number ≡ other) × (pdu ≡ late)
late_parts number id other also pdu late is = (cc, cc)

pub requests_known : (settings : Settings) (before later : List (List ℕ)) (came coming : List NodeInput) (prints others : List WorldPrint) (world : World)
    (last : Stage) (here node session sequence : ℕ) (first : Print) (id other : ℕ) (pdu : Pdu) →
    Joins settings None before came prints (Some world) → Joins settings (Some world) later coming others last → 1 ≤ node →
    In (At here first) prints → TellsAcceptance first id → IsUsedFor (NamesMessage id) settings world later node session sequence →
    In (At node (Late session other pdu)) others → pdu.sequence ≡ sequence → pdu.status ≢ status_code statuses.InvalidMessageId
requests_known settings before later came coming prints others world last here node session sequence first id other pdu joins more least first_in accepts used
    answer_in own refused =
    let so : WorldSo settings AcceptedFrom accepted_telling accepted_takes came world prints =
    first_so settings AcceptedFrom accepted_telling accepted_takes before came prints (Some world) joins in
    let accepted = accepted_so settings came world prints so here first first_in id accepts in
    let rest : JoinsSo so.cluster (AcceptedFrom so.cluster) so.past coming others last =
    joined_so settings so.cluster (AcceptedFrom so.cluster) (accepted_telling so.cluster) (accepted_takes so.cluster) later so.past world so.stands
    coming others last more in
    let Asks = Only session sequence (RequestOf so.cluster node session sequence so.past world id accepted used.free) in
    let Says = OnlySays session sequence (IsKnown so.cluster node session sequence so.past world id accepted used.free) in
    let says = says_of_request so.cluster node session sequence so.past world id accepted used.free in
    elim (lines_fine so.cluster node least so.past (Waited world node) Asks Says says settings later so.past world
    (waits_well so.cluster so.past world so.stands node least Asks Says says)
    (λ number asking comes wish is door next account request admits here same.
    about_waits door next account request settings.routes asking.body id accepted.is_id
    (used.only asking (subst (λ (n : ℕ). ComesBy settings world later (λ w line. EndsIn w line node n asking)) here comes) same) wish is admits)
    coming others last more (subst (MayHappen so.cluster) rest.later_is rest.stands.fit.may) (Late session other pdu) answer_in) [
      | inl aside ↦ aside.late session other pdu refl
      | inr it ↦
          let request = it.request in
          let reply = it.reply in
          let answers = reply_pdu request.requested request.sequence reply.id reply.answer in
          let parts = late_parts session other it.number reply.id pdu answers it.print_is in
          it.so (sym parts.0)
          (reply_sequence request.requested request.sequence reply.id reply.answer ∙ ap (λ (p : Pdu). p.sequence) (sym parts.1) ∙ own)
          (refuses_unknown request.requested request.sequence reply.id reply.answer (ap (λ (p : Pdu). p.status) (sym parts.1) ∙ refused))
    ]

-- ---- at once

pub accepted_known : (settings : Settings) (before : List (List ℕ)) (came : List NodeInput) (prints : List WorldPrint) (world : World) (here : ℕ)
    (first : Print) (id number session : ℕ) (runner : Runner) (frame : List ℕ) (asking pdu : Pdu) →
    Joins settings None before came prints (Some world) → In (At here first) prints → TellsAcceptance first id → read_pdu frame ≡ Ok asking →
    NamesMessage id asking.body → In (AtOnce session pdu) (on_frame settings number runner frame).prints →
    pdu.status ≢ status_code statuses.InvalidMessageId
accepted_known settings before came prints world here first id number session runner frame asking pdu joins first_in accepts reads names =
    let so : WorldSo settings AcceptedFrom accepted_telling accepted_takes came world prints =
    first_so settings AcceptedFrom accepted_telling accepted_takes before came prints (Some world) joins in
    let accepted = accepted_so settings came world prints so here first first_in id accepts in
    ids_known settings number session runner frame asking id pdu reads names accepted.is_id
