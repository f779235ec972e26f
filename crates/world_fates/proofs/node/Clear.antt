-- What is read of a submit_sm has no zero octet in its texts, and so has what is taken of it (SMPP 3.4, 3.1).
use Rattle.std.proofs.Common.{◌≡◌, ℕ, ◌<◌, Bool, List, [], ◌∷◌, Option, Some, None, Result, Ok, Err, true, false, refl, ap, subst}
use Rattle.std.specs.Prelude.{All, ◌==◌, drop, if◌then◌else◌, position, take}
use Rattle.std.specs.Str.{bytes_eq}
use Rattle.octet_fields.specs.declared.defect.Defect.{Defect}
use Rattle.octet_fields.specs.declared.defect.Defect.TheVariants as defects
use Rattle.octet_fields.specs.Kinds.{Content, Contents, Counted, Kind, Number, Parameters, Part, Text}
use Rattle.octet_fields.specs.Reading.{content_at, front_at, nothing_at, text_at, text_until, told}
use Rattle.octet_fields.proofs.Fields.{IsText-before}
use Rattle.octet_fields.proofs.Octets.{bind_ok, guard_ok, ok_is}
use Rattle.mc_model.specs.message.Submission.{Submission}
use Rattle.mc_model.specs.node.Actor.{Cancel as CancelAct, Query, Request, Submit}
use Rattle.mc_model.specs.node.Input.{Arrival, Input, Refusal}
use Rattle.node_model.specs.Kept.{Kept}
use Rattle.mc_model.specs.node.Setup.{Setup}
use Rattle.accounts.specs.declared.route.Route.{Route}
use Rattle.pdu_tables.specs.CommandCodes.{command_of}
use Rattle.pdu_tables.specs.declared.command.Command.{Command}
use Rattle.pdu_tables.specs.declared.command.Command.TheVariants as commands
use Rattle.pdu_tables.specs.declared.status.Status.{Status}
use Rattle.pdu_tables.specs.declared.status.Status.TheVariants as statuses
use Rattle.pdu_fields.specs.declared.fault.PduFault.TheVariants as faults
use Rattle.pdu_fields.specs.declared.fault.PduFault.TheVariants.{Extra}
use Rattle.pdu_fields.specs.Grammar.{message_parts, word_at}
use Rattle.pdu_bodies.specs.Bodies.{body_at, body_from}
use Rattle.pdu_bodies.specs.Forms.{Filling, filling_at, form_of}
use Rattle.pdu_bodies.specs.declared.pdu.Body.{Body}
use Rattle.pdu_bodies.specs.declared.pdu.Body.TheVariants as bodies
use Rattle.pdu_bodies.specs.declared.pdu.Message.{Message}
use Rattle.pdu_bodies.specs.declared.pdu.Pdu.{Pdu}
use Rattle.pdu_codec.specs.Pdu.{has_wrong_length, read_pdu}
use Rattle.desk.specs.Admissions.{asks_about, routed_as, taken_as}
use Rattle.desk.specs.Arrivals.{door_at, judged_as, next_id, requested}
use Rattle.desk.specs.Desk.{is_too_long, submission_of}
use Rattle.desk.specs.Times.{Times}
use Rattle.desk.specs.declared.request.Request.{Request as Asked}
use Rattle.desk.specs.declared.request.Request.TheVariants as asked
use Rattle.script_text.specs.Runner.{request_of}

-- ---- texts

abbrev pub HasNoZero : List ℕ → Type 0
HasNoZero text = All (λ octet. 0 < octet) text

-- the texts in front of what a deliver_sm brings (SMPP 3.4, 4.6.1)
pub record IsClear (message : Submission) : Type 0 where
  pub service_type : HasNoZero message.service_type
  pub source : HasNoZero message.source.digits
  pub destination : HasNoZero message.destination.digits

-- ---- fields

abbrev pub IsClearContent : (kind : Kind) → Content kind → Type 0
IsClearContent (Text limit) text = HasNoZero text
IsClearContent (Number size test) number = Unit {0}
IsClearContent (Counted size most test) octets = Unit {0}
IsClearContent (Parameters most) tlvs = Unit {0}

abbrev pub AreClear : {E : Type 0} (parts : List (Part E)) → Contents parts → Type 0
AreClear [] contents = Unit {0}
AreClear (first ∷ others) contents = IsClearContent first.kind contents.0 × AreClear others contents.1

content_clear : (kind : Kind) (octets : List ℕ) (x : Content kind × List ℕ) → content_at kind octets ≡ Ok x → IsClearContent kind x.0
unfolding content_at text_at
content_clear (Number size test) octets x is = tt
content_clear (Counted size most test) octets x is = tt
content_clear (Parameters most) octets x is = tt
content_clear (Text limit) octets x is = by_place (position (λ octet. octet == 0) (take limit octets)) refl is
  where
    same : (one other : List ℕ × List ℕ) → ◌≡◌ {A = Result (List ℕ × List ℕ) Defect} (Ok one) (Ok other) → one.0 ≡ other.0
    same one other is = ap (λ (p : List ℕ × List ℕ). p.0) (ok_is one other is)

    by_test : (test : Bool) → ◌≡◌ {A = Result (List ℕ × List ℕ) Defect} (if test then Err defects.Long else Err defects.Cut) (Ok x) → HasNoZero x.0
    by_test true is = absurd cc
    by_test false is = absurd cc

    by_place : (found : Option ℕ) → position (λ octet. octet == 0) (take limit octets) ≡ found → text_until limit octets found ≡ Ok x → HasNoZero x.0
    by_place None at is = by_test _ is
    by_place (Some place) at is = subst HasNoZero (same _ x is) (IsText-before limit octets place at).no_zero

front_clear : {E : Type 0} (parts : List (Part E)) (octets : List ℕ) (x : Contents parts × List ℕ) → front_at parts octets ≡ Ok x → AreClear parts x.0
front_clear [] octets x is = tt
front_clear (first ∷ others) octets x is =
    let one = bind_ok (told first.fault (content_at first.kind octets)) _ x is in
    let rest = bind_ok (front_at others one.0.1) _ x one.2 in
    let whole = ok_is _ x rest.2 in
    subst (λ (c : Contents (first ∷ others)). AreClear (first ∷ others) c) (ap (λ (p : Contents (first ∷ others) × List ℕ). p.0) whole)
    (by_told (content_at first.kind octets) refl one.0 one.1, front_clear others one.0.1 rest.0 rest.1)
  where
    by_told : (read : Result (Content first.kind × List ℕ) Defect) → content_at first.kind octets ≡ read → (y : Content first.kind × List ℕ) →
        told first.fault read ≡ Ok y → IsClearContent first.kind y.0
    by_told (Ok y) read_is z is =
        subst (λ (w : Content first.kind × List ℕ). IsClearContent first.kind w.0) (ok_is y z is) (content_clear first.kind octets y read_is)
    by_told (Err defect) read_is z is = absurd cc

-- ---- what is read

abbrev pub IsClearMessage : Message → Type 0
IsClearMessage message = HasNoZero message.service_type × HasNoZero message.source.digits × HasNoZero message.destination.digits

abbrev pub IsClearBody : Body → Type 0
IsClearBody (bodies.SubmitSm message) = IsClearMessage message
IsClearBody other = Unit {0}

body_clear : (command : Command) (octets : List ℕ) (filling : Filling (form_of command)) → filling_at (form_of command) octets ≡ Ok filling →
    IsClearBody (body_from command filling)
body_clear commands.SubmitSm octets filling is =
    let front = bind_ok (front_at message_parts octets) _ filling is in
    let last = bind_ok (nothing_at Extra front.0.1) _ filling front.2 in
    let same = ok_is front.0.0 filling last.2 in
    let clear = subst (AreClear message_parts) same (front_clear message_parts octets front.0 front.1) in
    (clear.0, clear.1.1.1.0, clear.1.1.1.1.1.1.0)
body_clear commands.GenericNack octets filling is = tt
body_clear commands.BindReceiver octets filling is = tt
body_clear commands.BindReceiverResp octets filling is = tt
body_clear commands.BindTransmitter octets filling is = tt
body_clear commands.BindTransmitterResp octets filling is = tt
body_clear commands.BindTransceiver octets filling is = tt
body_clear commands.BindTransceiverResp octets filling is = tt
body_clear commands.QuerySm octets filling is = tt
body_clear commands.QuerySmResp octets filling is = tt
body_clear commands.SubmitSmResp octets filling is = tt
body_clear commands.DeliverSm octets filling is = tt
body_clear commands.DeliverSmResp octets filling is = tt
body_clear commands.CancelSm octets filling is = tt
body_clear commands.CancelSmResp octets filling is = tt
body_clear commands.Unbind octets filling is = tt
body_clear commands.UnbindResp octets filling is = tt
body_clear commands.EnquireLink octets filling is = tt
body_clear commands.EnquireLinkResp octets filling is = tt

body_at_clear : (command : Option Command) (octets : List ℕ) (body : Body) → body_at command octets ≡ Ok body → IsClearBody body
unfolding body_at
body_at_clear None octets body is = absurd cc
body_at_clear (Some command) octets body is =
    let filled = bind_ok (filling_at (form_of command) octets) _ body is in
    subst IsClearBody (ok_is _ body filled.2) (body_clear command octets filled.0 filled.1)

pub read_clear : (octets : List ℕ) (pdu : Pdu) → read_pdu octets ≡ Ok pdu → IsClearBody pdu.body
unfolding read_pdu
read_clear octets pdu is =
    let whole = guard_ok (has_wrong_length octets) faults.Length _ pdu is in
    let body = bind_ok (body_at (command_of (word_at 4 octets)) (drop 16 octets)) _ pdu whole.1 in
    subst IsClearBody (ap (λ (p : Pdu). p.body) (ok_is _ pdu body.2)) (body_at_clear (command_of (word_at 4 octets)) (drop 16 octets) body.0 body.1)

-- ---- what is asked

abbrev pub IsClearRequest : Option Asked → Type 0
IsClearRequest (Some (asked.Submit message target)) = IsClearMessage message
IsClearRequest other = Unit {0}

pub request_clear : (routes : List Route) (body : Body) → IsClearBody body → IsClearRequest (request_of routes body)
request_clear routes (bodies.SubmitSm message) clear = clear
request_clear routes (bodies.QuerySm query) clear = tt
request_clear routes (bodies.CancelSm cancel) clear = tt
request_clear routes other clear = tt

-- what comes is no submit_sm, or one of which clear texts are taken
abbrev pub ComesClear : Input → Type 0
ComesClear input = (id : ℕ) (message : Submission) → input ≡ Arrival (Submit id message) → IsClear message

other_comes : (request : Request) → ((id : ℕ) (message : Submission) → request ≡ Submit id message → ⊥) → ComesClear (Arrival request)
other_comes request other id message is = absurd (other id message (same request (Submit id message) is))
  where
    same : (one two : Request) → Arrival one ≡ Arrival two → one ≡ two
    same one two is = cc

refusal_comes : (status : ℕ) → ComesClear (Refusal status)
refusal_comes status id message is = absurd cc

asked_comes : (ask : ℕ → Request) → ((about id : ℕ) (message : Submission) → ask about ≡ Submit id message → ⊥) → (found : Result ℕ Status) →
    ComesClear (judged_as (asks_about ask found))
asked_comes ask other (Ok about) = other_comes (ask about) (other about)
asked_comes ask other (Err status) = refusal_comes _

taken_comes : (next : ℕ) (account target : List ℕ) (message : Message) → IsClearMessage message → (times : Result Times Status) →
    ComesClear (judged_as (taken_as next account target message times))
taken_comes next account target message clear (Err status) id taken is = refusal_comes _ id taken is
taken_comes next account target message clear (Ok times) id taken is =
    subst IsClear (same next id (submission_of account target times message) taken is)
    (record { service_type = clear.0; source = clear.1; destination = clear.2 })
  where
    same : (one other : ℕ) (first second : Submission) → Arrival (Submit one first) ≡ Arrival (Submit other second) → first ≡ second
    same one other first second is = cc

pub requested_clear : (setup : Setup) (k : Kept) (account : List ℕ) (request : Asked) → IsClearRequest (Some request) →
    ComesClear (requested setup k account request)
requested_clear setup k account (asked.Submit message target) clear = by_length (is_too_long message) target
  where
    by_length : (long : Bool) (target : Option (List ℕ)) →
        ComesClear (judged_as (if long then Err statuses.InvalidMessageLength else routed_as (door_at setup k) (next_id setup k) account message target))
    by_length true target = refusal_comes _
    by_length false None = refusal_comes _
    by_length false (Some target) = taken_comes (next_id setup k) account target message clear _
requested_clear setup k account (asked.Ask query) clear =
    asked_comes (λ id. Query id account query.source.digits) (λ about id message is. cc) _
requested_clear setup k account (asked.Cancel cancel) clear = by_test (bytes_eq cancel.message_id []) _
  where
    asks : ℕ → Request
    asks id = CancelAct id account cancel.source.digits cancel.destination.digits

    by_test : (none : Bool) (found : Result ℕ Status) → ComesClear (judged_as (if none then Err statuses.CancelFailed else asks_about asks found))
    by_test true found = refusal_comes _
    by_test false found = asked_comes asks (λ about id message is. cc) found
