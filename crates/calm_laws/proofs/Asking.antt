-- A request of an account, for a node at rest: the runner and the one node do alike.
use Rattle.std.proofs.Common.{◌≡◌, ℕ, suc, Bool, true, false, cond, List, [], ◌∷◌, ◌++◌, Option, Some, None, Result, Ok, Err, refl, sym, ◌∙◌, ap, subst, arith}
use Rattle.std.proofs.lemmas.Bool.{and_parts, ne_eqb}
use Rattle.mc_model.specs.message.Chain.{taken_in}
use Rattle.mc_model.specs.message.Decree.{Decree, Deleted, Fate, Kind, Taken}
use Rattle.mc_model.specs.message.Ids.{IsSerial, id_of}
use Rattle.mc_model.specs.node.Actor.{Cancel, Query, Request, Submit}
use Rattle.mc_model.specs.node.Input.{Arrival, Input, Refusal}
use Rattle.mc_model.specs.node.Outputs.{Receipt}
use Rattle.mc_model.specs.node.Setup.{Setup}
use Rattle.node_model.specs.Kept.{Kept}
use Rattle.node_model.specs.Outputs.{Stepped}
use Rattle.node_model.specs.Starts.{is_idle}
use Rattle.node_model.specs.Stepped.{stepped}
use Rattle.node_model.specs.Stepped as steps
use Rattle.table_laws.specs.Alone.{alone}
use Rattle.table_laws.specs.Resting.{IsResting}
use Rattle.table_laws.specs.Tables.{MayCome, TableNode, chain_at, decree_by, decreed, is_deleted, is_meant, receipts_by}
use Rattle.table_laws.specs.Tables.{reply_to, requested, settled, table_by}
use Rattle.table_laws.proofs.AnyRequest.{request_settles, ticket_given}
use Rattle.table_laws.proofs.Frames.{eqb_self}
use Rattle.table_laws.proofs.Submits.{none_if_not_given}
use Rattle.pdu_tables.specs.StatusCodes.{status_code}
use Rattle.pdu_tables.specs.declared.status.Status.{Status}
use Rattle.sessions.specs.Session.{Session}
use Rattle.sessions.specs.Steps.{can_wait}
use Rattle.sessions.specs.declared.pushed.Pushed.{Pushed}
use Rattle.sessions.specs.declared.request.OpenRequest.{OpenRequest}
use Rattle.sessions.specs.declared.requested.Requested.{Requested}
use Rattle.desk.specs.Admissions.{admitted}
use Rattle.desk.specs.Arrivals.{judged_as}
use Rattle.desk.specs.declared.request.Request.{Request as Asked}
use Rattle.script_text.specs.Settings.{Settings}
use Rattle.script_text.specs.Node.{request_at}
use Rattle.script_text.specs.Prints.{AtOnce, Print}
use Rattle.script_text.specs.Responses.{refusal_pdu}
use Rattle.script_text.specs.Runner.{Owned, Served, begun_by, in_window, on_input, refusal_prints, session_in}
use Rattle.script_text.specs.OneNode.{Happened, OneNode, asked, asked_so, door_of, late, next_id, prints_now}
use Rattle.calm_laws.proofs.Admitting.{may_come, request_is}
use Rattle.calm_laws.proofs.Came.{Came}
use Rattle.calm_laws.proofs.Plain.{holding, like}
use Rattle.calm_laws.proofs.Standing.{AreQuiet, IsFit, SettlesTo, node_of, requests_at, rested, settles_so}
use Rattle.mc_parts.proofs.Requests.{serials}
use Rattle.calm_laws.proofs.Windows.{AreWaiting, IsUnderway, off_unless, waiting_with}

-- ---- attempts that wait are no matter of a request

-- none is deleted of which an attempt is under way
not_deleted : (account source destination : List ℕ) (chain : List Decree) → is_deleted account source destination chain ≡ true → IsUnderway chain → ⊥
not_deleted account source destination [] is underway = underway
not_deleted account source destination (newest ∷ older) is underway =
    let idle = (and_parts (is_idle newest.kind) (is_meant account source destination (taken_in (newest ∷ older))) is).0 in cc

module _ (k : Kept) (t : TableNode) (resting : IsResting k t) (sessions : List (ℕ × Session)) (waiting : AreWaiting t.table sessions) where
  -- there is no message under the next id
  none_yet : (id : ℕ) → IsSerial t.serial → id ≡ id_of 1 t.incarnation t.serial → chain_at t.table id ≡ []
  none_yet id serial id_is =
      none_if_not_given k id resting.life (subst IsSerial (sym resting.serial) serial)
      (id_is ∙ (λ i. id_of 1 (sym resting.incarnation i) (sym resting.serial i)))
      (chain_at t.table id) (resting.message id).taken

  decreed_waits : (id : ℕ) (kind : Kind) → (IsUnderway (chain_at t.table id) → ⊥) → AreWaiting (decreed t id kind) sessions
  decreed_waits id kind idle =
      waiting_with t.table sessions waiting id (settled t (chain_at t.table id) (decree_by t (chain_at t.table id) kind))
      (off_unless t.table sessions waiting id (λ underway granted. idle underway))

  request_waits : (request : Request) → MayCome t request → AreWaiting (table_by t request) sessions
  request_waits (Submit id message) next =
      decreed_waits id (Taken message) (λ underway. subst IsUnderway (none_yet id next.serial next.id_is) underway)
  request_waits (Query id account source) may = waiting
  request_waits (Cancel id account source destination) may = by_test (is_deleted account source destination (chain_at t.table id)) refl
    where
      by_test : (deletes : Bool) → is_deleted account source destination (chain_at t.table id) ≡ deletes →
          AreWaiting (cond deletes (decreed t id (Fate Deleted 0)) t.table) sessions
      by_test true is = decreed_waits id (Fate Deleted 0) (λ underway. not_deleted account source destination (chain_at t.table id) is underway)
      by_test false is = waiting

-- ---- a request

module _ (settings : Settings) (first left number : ℕ) (one : OneNode) (k : Kept) (quiet : AreQuiet settings first (suc left) one (node_of settings first k))
    (name : List ℕ) (version next : ℕ) (pushed : List Pushed) (is : like (Some name) version pushed next [] ≡ session_in one.sessions number)
    (kind : Requested) (sequence : ℕ) where
  abbrev setup : Setup
  setup = alone first settings.validity

  abbrev t : TableNode
  t = one.node

  abbrev session : Session
  session = like (Some name) version pushed next []

  -- what comes to the node, and what happens, leave both alike
  abbrev LeftAlike : Served → Happened → Type 0
  LeftAlike served happened = Came settings first left number false one None served happened (Some name)

  abbrev Comes : Input → Happened → Type 0
  Comes input happened = LeftAlike (on_input number (node_of settings first k) session kind sequence input) happened

  refuse_comes : (status : Status) → Comes (Refusal (status_code status)) (prints_now one (AtOnce number (refusal_pdu kind sequence status) ∷ []))
  refuse_comes status =
      let refused : stepped setup k (Refusal (status_code status)) ≡ steps.refused_with k (status_code status) = let up = quiet.resting.up in rw up refl in
      subst
      (λ (step : Stepped). LeftAlike (begun_by number (node_of settings first k) session kind sequence (Refusal (status_code status)) step)
      (prints_now one (AtOnce number (refusal_pdu kind sequence status) ∷ [])))
      (sym refused)
      (record {
        holds = None;
        agree = let room = quiet.room in rested settings first left one k quiet.fit (omega (arith, room)) quiet.resting quiet.owed quiet.due;
        session = ap (λ (s : Session). holding s []) is;
        bound = refl;
        prints = refl;
        others = λ other differ. refl;
        requests = λ other differ. refl;
        waiting = refl;
        still = tt;
      })

  -- ---- a request waits

  module _ (request : Request) (may : MayCome t request) where
    abbrev waits : OpenRequest
    waits = record { ticket = t.ticket; requested = kind; sequence = sequence }

    abbrev owned : Owned
    owned = record { number = number; request = waits }

    abbrev step : Stepped
    step = stepped setup k (Arrival request)

    abbrev owes : Print
    owes = late number kind sequence (reply_to t request)

    abbrev then : OneNode
    then = record one { node = requested t request; owed = one.owed ++ owes ∷ []; due = one.due ++ receipts_by t request }

    unrefused : step.outputs.refused ≡ None
    unrefused = let up = quiet.resting.up in rw up (refl {a = None})

    waits_so : in_window session kind sequence step.outputs.ticket ≡ holding (session_in one.sessions number) (requests_at (Some owned) number)
    waits_so =
        ap (in_window session kind sequence) (ticket_given first settings.validity k t quiet.resting request)
        ∙ ap (λ (test : Bool). like (Some name) version pushed next (cond test (waits ∷ []) [])) (sym (eqb_self number))
        ∙ ap (λ (s : Session). holding s (requests_at (Some owned) number)) is

    window_bound : (ticket : Option ℕ) → (in_window session kind sequence ticket).account ≡ Some name
    window_bound None = refl
    window_bound (Some given) = by_room (can_wait session)
      where
        by_room : (room : Bool) →
            (cond {A = Session} room
            (record session { requests = session.requests ++ record { ticket = given; requested = kind; sequence = sequence } ∷ [] }) session).account
            ≡ Some name
        by_room true = refl
        by_room false = refl

    fit_then : IsFit then
    fit_then = record {
      least = omega (arith, quiet.fit.least, serials request t.serial);
      plain = quiet.fit.plain;
      waiting = request_waits k t quiet.resting one.sessions quiet.fit.waiting request may;
    }

    wait_comes : Comes (Arrival request) (prints_now then [])
    wait_comes = record {
      holds = Some owned;
      agree = record {
        replies = reply_to t request ∷ [];
        fit = fit_then;
        room = let room = quiet.room in omega (arith, room);
        setup = refl;
        settles =
            subst (SettlesTo setup step.kept step.outputs.packets (requested t request) (reply_to t request ∷ []))
            (sym (ap (λ (receipts : List Receipt). receipts ++ receipts_by t request) quiet.due))
            (settles_so setup step (requested t request) (reply_to t request ∷ []) (receipts_by t request)
            (request_settles first settings.validity k t quiet.resting request may));
        owes = (reply_to t request, refl, refl, ap (λ (prints : List Print). prints ++ owes ∷ []) quiet.owed);
      };
      session = waits_so;
      bound = window_bound step.outputs.ticket;
      prints = ap (refusal_prints number kind sequence) unrefused;
      others = λ other differ. refl;
      requests = λ other differ. ap (λ (test : Bool). cond test (waits ∷ []) []) (ne_eqb number other differ);
      waiting = refl;
      still = tt;
    }

  -- ---- a request of the account

  given_comes : (request : Asked) (given : Result Request Status) → admitted (door_of settings t) (next_id t) name request ≡ given →
      Comes (judged_as given) (asked_so one number kind sequence given)
  given_comes request (Ok one_more) given = wait_comes one_more (may_come settings t quiet.fit.least name one_more request given)
  given_comes request (Err status) given = refuse_comes status

  pub request_comes : (request : Asked) →
      Comes (request_at (node_of settings first k) name request) (asked settings one number kind sequence (Some name) (Some request))
  request_comes request =
      let room = quiet.room in
      subst (λ (input : Input). Comes input (asked settings one number kind sequence (Some name) (Some request)))
      (sym (request_is settings first k t quiet.resting (omega (arith, room)) name request))
      (given_comes request (admitted (door_of settings t) (next_id t) name request) refl)
