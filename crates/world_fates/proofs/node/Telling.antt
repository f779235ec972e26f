-- What prints tell of the fates of messages.
use Rattle.std.proofs.Common.{◌≡◌, ℕ, ◌<◌, ◌^◌, Bool, List, Option, Some, None, inl, inr, refl, sym, ◌∙◌, ap, subst, arith}
use Rattle.std.specs.Fmt.{decimal}
use Rattle.std.specs.List.{AllByRecursion}
use Rattle.std.proofs.lemmas.Fmt.{decimal_injective}
use Rattle.mc_model.specs.message.Chain.{final_in}
use Rattle.mc_model.specs.message.Decree.{Decree, Final, Deleted}
use Rattle.mc_model.specs.message.Submission.{Submission}
use Rattle.mc_model.specs.node.Replies.{Accepted, Answer, Kept as Keeps, NotMatched, NotOwner, Removed, Shown, TooLate, Unknown}
use Rattle.mc_model.specs.cluster.World.{World}
use Rattle.accounts.specs.declared.role.Role.TheVariants as roles
use Rattle.pdu_tables.specs.StateCodes.{state_code}
use Rattle.pdu_tables.specs.StatusCodes.{status_code}
use Rattle.pdu_tables.specs.declared.status.Status.TheVariants as statuses
use Rattle.pdu_bodies.specs.declared.pdu.Body.{Body}
use Rattle.pdu_bodies.specs.declared.pdu.Body.TheVariants.{QuerySmResp, CancelSmResp, DeliverSm}
use Rattle.pdu_bodies.specs.declared.pdu.Message.{Message}
use Rattle.pdu_bodies.specs.declared.pdu.Pdu.{Pdu}
use Rattle.pdu_bodies.specs.declared.pdu.QueryAnswer.{QueryAnswer}
use Rattle.sessions.specs.Session.{Session}
use Rattle.sessions.specs.Responses.{pdu_of, refusal_body, response_pdu}
use Rattle.sessions.specs.declared.requested.Requested.{Requested}
use Rattle.sessions.specs.declared.requested.Requested.TheVariants as requests
use Rattle.sessions.specs.declared.response.Response.{Response}
use Rattle.sessions.specs.declared.response.Response.TheVariants.{Nack, Refused, Bound, Unbound, Linked}
use Rattle.sessions.specs.declared.response.Outgoing.{Outgoing}
use Rattle.fate_chain.specs.States.{final_code, state_of}
use Rattle.receipts.specs.Texts.{Report}
use Rattle.script_text.specs.Responses.{refused_with, reply_pdu}
use Rattle.script_text.specs.Prints.{Print, AtOnce, Declined, Delivers, Gone, Late, Reports, Ungranted, report_pdu}
use Rattle.script_text.specs.Pushes.{delivery_on}
use Rattle.script_text.specs.Laws.{StatesFate, TellsDeletion, TellsReceipt, TellsState, pdu_in}
use Rattle.world_fates.proofs.node.Replying.{Grows, IsFitAnswer}
use Rattle.world_fates.proofs.node.Decided.{IsDecided}

-- ---- PDUs that tell no state

-- a body that is not a query_sm_resp with an answer
abbrev pub TellsNone : Body → Type 0
TellsNone body = (answer : QueryAnswer) → body ≡ QuerySmResp (Some answer) → ⊥

-- a body that is no deliver_sm
abbrev pub IsNoDeliverSm : Body → Type 0
IsNoDeliverSm body = (message : Message) → body ≡ DeliverSm message → ⊥

pub refusal_tells_none : (requested : Requested) → TellsNone (refusal_body requested)
refusal_tells_none requests.BindReceiver answer is = cc
refusal_tells_none requests.BindTransmitter answer is = cc
refusal_tells_none requests.BindTransceiver answer is = cc
refusal_tells_none requests.SubmitSm answer is = cc
refusal_tells_none requests.DeliverSm answer is = cc
refusal_tells_none requests.QuerySm answer is = cc
refusal_tells_none requests.CancelSm answer is = cc
refusal_tells_none requests.Unbind answer is = cc
refusal_tells_none requests.EnquireLink answer is = cc

response_tells_none : (system_id : List ℕ) (sequence : ℕ) (response : Response) → TellsNone (response_pdu system_id sequence response).body
response_tells_none system_id sequence (Nack status) answer is = cc
response_tells_none system_id sequence (Refused requested status) answer is = refusal_tells_none requested answer is
response_tells_none system_id sequence (Bound roles.Transmitter version) answer is = cc
response_tells_none system_id sequence (Bound roles.Receiver version) answer is = cc
response_tells_none system_id sequence (Bound roles.Transceiver version) answer is = cc
response_tells_none system_id sequence Unbound answer is = cc
response_tells_none system_id sequence Linked answer is = cc

pub refusal_delivers_none : (requested : Requested) → IsNoDeliverSm (refusal_body requested)
refusal_delivers_none requests.BindReceiver message is = cc
refusal_delivers_none requests.BindTransmitter message is = cc
refusal_delivers_none requests.BindTransceiver message is = cc
refusal_delivers_none requests.SubmitSm message is = cc
refusal_delivers_none requests.DeliverSm message is = cc
refusal_delivers_none requests.QuerySm message is = cc
refusal_delivers_none requests.CancelSm message is = cc
refusal_delivers_none requests.Unbind message is = cc
refusal_delivers_none requests.EnquireLink message is = cc

response_delivers_none : (system_id : List ℕ) (sequence : ℕ) (response : Response) → IsNoDeliverSm (response_pdu system_id sequence response).body
response_delivers_none system_id sequence (Nack status) message is = cc
response_delivers_none system_id sequence (Refused requested status) message is = refusal_delivers_none requested message is
response_delivers_none system_id sequence (Bound roles.Transmitter version) message is = cc
response_delivers_none system_id sequence (Bound roles.Receiver version) message is = cc
response_delivers_none system_id sequence (Bound roles.Transceiver version) message is = cc
response_delivers_none system_id sequence Unbound message is = cc
response_delivers_none system_id sequence Linked message is = cc

-- ---- prints that tell nothing of a fate, and answer no request that waited

pub record IsMute (print : Print) : Type 0 where
  pub state : (message_id : List ℕ) (state : ℕ) → TellsState print message_id state → ⊥
  pub deletion : (message_id : List ℕ) → TellsDeletion print message_id → ⊥
  pub receipt : (message_id : List ℕ) (state : ℕ) → TellsReceipt print message_id state → ⊥
  pub late : (session id : ℕ) (other : Pdu) → print ≡ Late session id other → ⊥
  pub once : (session : ℕ) (other : Pdu) → print ≡ AtOnce session other → TellsNone other.body × IsNoDeliverSm other.body

-- it is neither the answer to a request that waited nor a receipt
record IsNoAnswer (print : Print) : Type 0 where
  late : (session id : ℕ) (other : Pdu) → print ≡ Late session id other → ⊥
  receipt : (session sequence : ℕ) (optional : Bool) (report : Report) → print ≡ Reports session sequence optional report → ⊥
  once : (session : ℕ) (other : Pdu) → print ≡ AtOnce session other → IsNoDeliverSm other.body

-- a PDU that tells none goes out, and is neither
other_is_mute : (print : Print) (pdu : Pdu) → pdu_in print ≡ Some pdu → TellsNone pdu.body → IsNoAnswer print → IsMute print
other_is_mute print pdu is none never = record {
  state = λ message_id state tells.
      let same : pdu ≡ tells.pdu = some_is pdu tells.pdu (sym is ∙ tells.printed) in
      none tells.answer (ap (λ (p : Pdu). p.body) same ∙ tells.body);
  deletion = λ message_id tells. never.late tells.session tells.id tells.pdu tells.printed;
  receipt = λ message_id state tells. never.receipt tells.session tells.sequence tells.optional tells.report tells.printed;
  late = never.late;
  once = λ session other same. (
    subst (λ (p : Pdu). TellsNone p.body) (some_is pdu other (sym is ∙ ap (λ (p : Print). pdu_in p) same)) none,
    never.once session other same,
  );
}
  where
    some_is : (one other : Pdu) → Some one ≡ Some other → one ≡ other
    some_is one other is = cc

at_once_is_mute : (session : ℕ) (pdu : Pdu) → TellsNone pdu.body → IsNoDeliverSm pdu.body → IsMute (AtOnce session pdu)
at_once_is_mute session pdu none other =
    other_is_mute (AtOnce session pdu) pdu refl none (record { late = not_late; receipt = no_receipt; once = no_deliver })
  where
    not_late : (number id : ℕ) (other : Pdu) → AtOnce session pdu ≡ Late number id other → ⊥
    not_late number id other is = cc

    no_receipt : (number sequence : ℕ) (optional : Bool) (report : Report) → AtOnce session pdu ≡ Reports number sequence optional report → ⊥
    no_receipt number sequence optional report is = cc

    same_pdu : (number : ℕ) (one : Pdu) → AtOnce session pdu ≡ AtOnce number one → pdu ≡ one
    same_pdu number one is = cc

    no_deliver : (number : ℕ) (one : Pdu) → AtOnce session pdu ≡ AtOnce number one → IsNoDeliverSm one.body
    no_deliver number one is = subst (λ (p : Pdu). IsNoDeliverSm p.body) (same_pdu number one is) other

pub refusal_is_mute : (session : ℕ) (requested : Requested) (sequence status : ℕ) → IsMute (AtOnce session (refused_with requested sequence status))
refusal_is_mute session requested sequence status =
    at_once_is_mute session (refused_with requested sequence status) (refusal_tells_none requested) (refusal_delivers_none requested)

pub response_is_mute : (session : ℕ) (system_id : List ℕ) (outgoing : Outgoing) → IsMute (AtOnce session (pdu_of system_id outgoing))
response_is_mute session system_id outgoing =
    at_once_is_mute session (pdu_of system_id outgoing) (response_tells_none system_id outgoing.sequence outgoing.response)
    (response_delivers_none system_id outgoing.sequence outgoing.response)

-- the deliver_sm of an attempt goes out
pub delivery_is_mute : (number : ℕ) (session : Session) (taken : Submission) → IsMute (Delivers number (delivery_on session taken))
delivery_is_mute number session taken =
    other_is_mute (Delivers number (delivery_on session taken)) (delivery_on session taken) refl (λ answer is. cc)
    (record {
      late = not_late (delivery_on session taken);
      receipt = no_receipt (delivery_on session taken);
      once = λ other pdu is. absurd (not_once (delivery_on session taken) other pdu is);
    })
  where
    not_late : (pdu : Pdu) (other id : ℕ) (late : Pdu) → Delivers number pdu ≡ Late other id late → ⊥
    not_late pdu other id late is = cc

    no_receipt : (pdu : Pdu) (other sequence : ℕ) (optional : Bool) (report : Report) → Delivers number pdu ≡ Reports other sequence optional report → ⊥
    no_receipt pdu other sequence optional report is = cc

    not_once : (pdu : Pdu) (other : ℕ) (once : Pdu) → Delivers number pdu ≡ AtOnce other once → ⊥
    not_once pdu other once is = cc

-- no PDU goes out
silent_is_mute : (print : Print) → pdu_in print ≡ None → IsMute print
silent_is_mute print none = record {
  state = λ message_id state tells. none_is_some tells.pdu (sym none ∙ tells.printed);
  deletion = λ message_id tells. none_is_some tells.pdu (sym none ∙ ap (λ (p : Print). pdu_in p) tells.printed);
  receipt = λ message_id state tells. none_is_some _ (sym none ∙ ap (λ (p : Print). pdu_in p) tells.printed);
  late = λ session id other is. none_is_some other (sym none ∙ ap (λ (p : Print). pdu_in p) is);
  once = λ session other is. absurd (none_is_some other (sym none ∙ ap (λ (p : Print). pdu_in p) is));
}
  where
    none_is_some : (pdu : Pdu) → None ≡ Some pdu → ⊥
    none_is_some pdu is = cc

pub gone_is_mute : (session : ℕ) → IsMute (Gone session)
gone_is_mute session = silent_is_mute (Gone session) refl

pub declined_is_mute : (number : ℕ) → IsMute (Declined number)
declined_is_mute number = silent_is_mute (Declined number) refl

pub ungranted_is_mute : (reason : ℕ) → IsMute (Ungranted reason)
ungranted_is_mute reason = silent_is_mute (Ungranted reason) refl

-- it is no deliver_sm of an attempt
abbrev pub IsNoDelivery : Print → Type 0
IsNoDelivery (AtOnce session pdu) = Unit {0}
IsNoDelivery (Late session id pdu) = Unit {0}
IsNoDelivery (Delivers session pdu) = ⊥
IsNoDelivery (Reports session sequence optional report) = Unit {0}
IsNoDelivery (Gone session) = Unit {0}
IsNoDelivery (Declined number) = Unit {0}
IsNoDelivery (Ungranted reason) = Unit {0}

-- prints that tell nothing of a fate, and are no deliver_sm of an attempt
abbrev pub AreMute : List Print → Type 0
AreMute prints = AllByRecursion (λ (print : Print). IsMute print × IsNoDelivery print) prints

-- ---- replies

-- an answer shows a chain in this state
pub record Shows (answer : Answer) (code : ℕ) : Type 0 where
  pub chain : List Decree
  pub answer_is : answer ≡ Shown chain
  pub code_is : state_code (state_of (final_in chain)) ≡ code

-- it is ESME_ROK to a cancel_sm
pub record Removes (answer : Answer) : Type 0 where
  pub chain : List Decree
  pub answer_is : answer ≡ Removed chain

-- what a print of an answer for a message of an id tells
pub record IsTold (id : ℕ) (answer : Answer) (print : Print) : Type 0 where
  pub state : (message_id : List ℕ) (state : ℕ) → TellsState print message_id state → (decimal id ≡ message_id) × Shows answer state
  pub deletion : (message_id : List ℕ) → TellsDeletion print message_id → (decimal id ≡ message_id) × Removes answer
  pub receipt : (message_id : List ℕ) (state : ℕ) → TellsReceipt print message_id state → ⊥

late_pdu : (session number id other : ℕ) (one two : Pdu) → Late session id one ≡ Late number other two → (id ≡ other) × (one ≡ two)
late_pdu session number id other one two is = (cc, cc)

-- a PDU that answers a request tells of its message what the answer is
pdu_shows : (requested : Requested) (sequence id : ℕ) (answer : Answer) (told : QueryAnswer) →
    (reply_pdu requested sequence id answer).body ≡ QuerySmResp (Some told) →
    (decimal id ≡ told.message_id) × Shows answer told.message_state
pdu_shows requested sequence id Accepted told is = absurd cc
pdu_shows requested sequence id (Shown chain) told is =
    let same = told_is _ told is in
    (ap (λ (a : QueryAnswer). a.message_id) same, record { chain = chain; answer_is = refl; code_is = ap (λ (a : QueryAnswer). a.message_state) same })
  where
    told_is : (one other : QueryAnswer) → QuerySmResp (Some one) ≡ QuerySmResp (Some other) → one ≡ other
    told_is one other is = cc
pdu_shows requested sequence id (Removed chain) told is = absurd cc
pdu_shows requested sequence id NotOwner told is = absurd (refusal_tells_none requested told is)
pdu_shows requested sequence id (Keeps chain) told is = absurd (refusal_tells_none requested told is)
pdu_shows requested sequence id (NotMatched chain) told is = absurd (refusal_tells_none requested told is)
pdu_shows requested sequence id Unknown told is = absurd (refusal_tells_none requested told is)
pdu_shows requested sequence id TooLate told is = absurd (refusal_tells_none requested told is)

pdu_deletes : (requested : Requested) (sequence id : ℕ) (answer : Answer) → (reply_pdu requested sequence id answer).status ≡ status_code statuses.Ok →
    (reply_pdu requested sequence id answer).body ≡ CancelSmResp → Removes answer
pdu_deletes requested sequence id Accepted status is = absurd cc
pdu_deletes requested sequence id (Shown chain) status is = absurd cc
pdu_deletes requested sequence id (Removed chain) status is = record { chain = chain; answer_is = refl }
pdu_deletes requested sequence id NotOwner status is = absurd (omega (arith, status))
pdu_deletes requested sequence id (Keeps chain) status is = absurd (omega (arith, status))
pdu_deletes requested sequence id (NotMatched chain) status is = absurd (omega (arith, status))
pdu_deletes requested sequence id Unknown status is = absurd (omega (arith, status))
pdu_deletes requested sequence id TooLate status is = absurd (omega (arith, status))

pub reply_is_told : (session : ℕ) (requested : Requested) (sequence id : ℕ) (answer : Answer) →
    IsTold id answer (Late session id (reply_pdu requested sequence id answer))
reply_is_told session requested sequence id answer = record {
  state = λ message_id state tells.
      let same : reply_pdu requested sequence id answer ≡ tells.pdu = some_is _ tells.pdu tells.printed in
      let shows = pdu_shows requested sequence id answer tells.answer (ap (λ (p : Pdu). p.body) same ∙ tells.body) in
      (shows.0 ∙ tells.message, subst (Shows answer) tells.state_is shows.1);
  deletion = λ message_id tells.
      let same = late_pdu session tells.session id tells.id _ tells.pdu tells.printed in (
        ap decimal same.0 ∙ tells.message,
        pdu_deletes requested sequence id answer (ap (λ (p : Pdu). p.status) same.1 ∙ tells.status) (ap (λ (p : Pdu). p.body) same.1 ∙ tells.body),
      );
  receipt = λ message_id state tells. no_receipt _ tells.session tells.sequence tells.optional tells.report tells.printed;
}
  where
    no_receipt : (pdu : Pdu) (other number : ℕ) (optional : Bool) (report : Report) → Late session id pdu ≡ Reports other number optional report → ⊥
    no_receipt pdu other number optional report is = cc

    some_is : (one other : Pdu) → Some one ≡ Some other → one ≡ other
    some_is one other is = cc

-- ---- fates told

-- a print tells fates that are decided
pub record KnowsFate (node : ℕ) (w : World) (message_id : List ℕ) (state : ℕ) : Type 0 where
  pub id : ℕ
  pub final : Final
  pub small : id < 2 ^ 64
  pub message : decimal id ≡ message_id
  pub decided : IsDecided node w id final
  pub state_is : state ≡ state_code (state_of (Some final))

abbrev pub TellsFates : ℕ → World → Print → Type 0
TellsFates node w print = (message_id : List ℕ) (state : ℕ) → StatesFate print message_id state → KnowsFate node w message_id state

-- a print tells this state of a message, if it tells one
abbrev pub TellsOnly : List ℕ → ℕ → Print → Type 0
TellsOnly message_id code print = (state : ℕ) → TellsState print message_id state → state ≡ code

pub mute_tells_fates : (node : ℕ) (w : World) (print : Print) → IsMute print → TellsFates node w print
mute_tells_fates node w print mute message_id state (inl tells) = absurd (mute.state message_id state tells.0)
mute_tells_fates node w print mute message_id state (inr (inl tells)) = absurd (mute.deletion message_id tells.0)
mute_tells_fates node w print mute message_id state (inr (inr tells)) = absurd (mute.receipt message_id state tells)

pub mute_tells_only : (message_id : List ℕ) (code : ℕ) (print : Print) → IsMute print → TellsOnly message_id code print
mute_tells_only message_id code print mute state tells = absurd (mute.state message_id state tells)

pub fates_told_later : (node : ℕ) (first last : World) (print : Print) → Grows first last → TellsFates node first print → TellsFates node last print
fates_told_later node first last print grows tells message_id state fate =
    let it = tells message_id state fate in
    record {
      id = it.id;
      final = it.final;
      small = it.small;
      message = it.message;
      decided = grows node it.id it.final it.decided;
      state_is = it.state_is;
    }

-- ---- what a reply tells that fits

pub reply_tells_fates : (node : ℕ) (w : World) (id : ℕ) (answer : Answer) (print : Print) → id < 2 ^ 64 → IsTold id answer print →
    IsFitAnswer node w id answer → TellsFates node w print
reply_tells_fates node w id answer print small told fits message_id state (inl tells) =
    let (message, shows) = told.state message_id state tells.0 in
    by_final message shows (final_in shows.chain) refl
  where
    by_final : decimal id ≡ message_id → (shows : Shows answer state) → (final : Option Final) → final_in shows.chain ≡ final →
        KnowsFate node w message_id state
    by_final message shows None is = absurd (tells.1 (sym shows.code_is ∙ ap (λ (f : Option Final). state_code (state_of f)) is))
    by_final message shows (Some final) is = record {
      id = id;
      final = final;
      small = small;
      message = message;
      decided = fits.fated shows.chain final shows.answer_is is;
      state_is = sym shows.code_is ∙ ap (λ (f : Option Final). state_code (state_of f)) is;
    }
reply_tells_fates node w id answer print small told fits message_id state (inr (inr tells)) = absurd (told.receipt message_id state tells)
reply_tells_fates node w id answer print small told fits message_id state (inr (inl tells)) =
    let (message, removes) = told.deletion message_id tells.0 in
    record {
      id = id;
      final = Deleted;
      small = small;
      message = message;
      decided = fits.removed removes.chain removes.answer_is;
      state_is = tells.1;
    }

-- and it tells what was decided
pub reply_tells_only : (node : ℕ) (w : World) (id about : ℕ) (final : Final) (answer : Answer) (print : Print) → id < 2 ^ 64 → about < 2 ^ 64 →
    IsDecided node w id final → IsTold about answer print → IsFitAnswer node w about answer →
    TellsOnly (decimal id) (state_code (state_of (Some final))) print
reply_tells_only node w id about final answer print small other_small decided told fits state tells =
    let (message, shows) = told.state (decimal id) state tells in
    let here : about ≡ id = decimal_injective about id other_small small message in
    let ends = fits.shown shows.chain final shows.answer_is (subst (λ (i : ℕ). IsDecided node w i final) (sym here) decided) in
    sym shows.code_is ∙ ap (λ (f : Option Final). state_code (state_of f)) ends

-- ---- what a receipt tells

-- it is not the answer to a query_sm or to a cancel_sm
pub report_tells_no_state : (session sequence : ℕ) (optional : Bool) (report : Report) (message_id : List ℕ) (state : ℕ) →
    TellsState (Reports session sequence optional report) message_id state → ⊥
report_tells_no_state session sequence optional report message_id state tells =
    no_answer _ tells.answer (ap (λ (p : Pdu). p.body) (some_is (report_pdu sequence optional report) tells.pdu tells.printed) ∙ tells.body)
  where
    some_is : (one other : Pdu) → Some one ≡ Some other → one ≡ other
    some_is one other is = cc

    no_answer : (message : Message) (answer : QueryAnswer) → DeliverSm message ≡ QuerySmResp (Some answer) → ⊥
    no_answer message answer is = cc

pub report_tells_no_deletion : (session sequence : ℕ) (optional : Bool) (report : Report) (message_id : List ℕ) →
    TellsDeletion (Reports session sequence optional report) message_id → ⊥
report_tells_no_deletion session sequence optional report message_id tells = not_late tells.session tells.id tells.pdu tells.printed
  where
    not_late : (other id : ℕ) (late : Pdu) → Reports session sequence optional report ≡ Late other id late → ⊥
    not_late other id late is = cc

-- the final state of its message
pub report_tells_fates : (node : ℕ) (w : World) (session sequence : ℕ) (optional : Bool) (report : Report) → report.id < 2 ^ 64 →
    IsDecided node w report.id report.final → TellsFates node w (Reports session sequence optional report)
report_tells_fates node w session sequence optional report small decided message_id state (inl tells) =
    absurd (report_tells_no_state session sequence optional report message_id state tells.0)
report_tells_fates node w session sequence optional report small decided message_id state (inr (inl tells)) =
    absurd (report_tells_no_deletion session sequence optional report message_id tells.0)
report_tells_fates node w session sequence optional report small decided message_id state (inr (inr tells)) =
    let same = report_is tells.session tells.sequence tells.optional tells.report tells.printed in
    record {
      id = report.id;
      final = report.final;
      small = small;
      message = ap (λ (r : Report). decimal r.id) same ∙ tells.message;
      decided = decided;
      state_is = sym (ap (λ (r : Report). final_code r.final) same ∙ tells.state_is);
    }
  where
    report_is : (other number : ℕ) (knows : Bool) (told : Report) → Reports session sequence optional report ≡ Reports other number knows told →
        report ≡ told
    report_is other number knows told is = cc
