-- A query_sm or a cancel_sm with the message_id of an id is at no time refused at once as one for a message that there is not.
use Rattle.std.proofs.Common.{◌≡◌, ◌≢◌, ℕ, Bool, true, false, List, [], ◌∷◌, Option, Some, None, Result, Ok, Err, refl}
use Rattle.std.proofs.Common.{sym, ◌∙◌, ap, subst, inl, inr, arith}
use Rattle.std.specs.Prelude.{if◌then◌else◌}
use Rattle.std.specs.Fmt.{decimal}
use Rattle.std.specs.Str.{bytes_eq}
use Rattle.mc_model.specs.message.Ids.{IsId}
use Rattle.mc_model.specs.synod.Lists.{In}
use Rattle.mc_model.specs.node.Actor.{Cancel, Query, Request as Waited}
use Rattle.mc_model.specs.node.Input.{Arrival, Input, Refusal}
use Rattle.mc_parts.proofs.Membership.{in_either}
use Rattle.mc_types.specs.Texts.{id_in}
use Rattle.mc_types.proofs.Texts.{ids_and_texts}
use Rattle.node_model.specs.Stepped.{stepped_down, stepped_up}
use Rattle.pdu_tables.specs.StatusCodes.{status_code}
use Rattle.pdu_tables.specs.declared.status.Status.TheVariants as statuses
use Rattle.pdu_bodies.specs.declared.pdu.Body.{Body}
use Rattle.pdu_bodies.specs.declared.pdu.Body.TheVariants as bodies
use Rattle.pdu_bodies.specs.declared.pdu.Cancel.{Cancel as CancelBody}
use Rattle.pdu_bodies.specs.declared.pdu.Pdu.{Pdu}
use Rattle.pdu_bodies.specs.declared.pdu.Query.{Query as QueryBody}
use Rattle.pdu_codec.specs.Pdu.{read_pdu}
use Rattle.pdu_fields.specs.declared.fault.PduFault.{PduFault}
use Rattle.sessions.specs.Session.{Session}
use Rattle.sessions.specs.States.{in_state}
use Rattle.sessions.specs.Steps.{on_cell, refused}
use Rattle.sessions.specs.Table.{Asks, Drops, unfit}
use Rattle.sessions.specs.Windows.{has_room}
use Rattle.sessions.specs.declared.reaction.Reaction.TheVariants as reactions
use Rattle.sessions.specs.declared.requested.Requested.{Requested}
use Rattle.sessions.specs.declared.requested.Requested.TheVariants as requests
use Rattle.sessions.specs.declared.state.SessionState.{SessionState}
use Rattle.sessions.specs.declared.state.SessionState.TheVariants as states
use Rattle.desk.specs.Admissions.{about, admitted, asks_about}
use Rattle.desk.specs.Arrivals.{door_at, judged_as, next_id}
use Rattle.desk.specs.declared.request.Request.{Request}
use Rattle.desk.specs.declared.request.Request.TheVariants.{Ask, Cancel as Cancels}
use Rattle.script_text.specs.Node.{Node, step_at}
use Rattle.script_text.specs.Prints.{AtOnce, Print}
use Rattle.script_text.specs.Receipts.{posted_for_any}
use Rattle.script_text.specs.Runner.{Runner, came_by, mail_of, on_done, on_frame, on_reaction, on_read, on_request, refusal_prints, served_at, session_in}
use Rattle.script_text.specs.Settings.{Settings}
use Rattle.world_fates.specs.Refusals.{NamesMessage}
use Rattle.world_fates.proofs.Asking.{posted_for_any_posts}

-- at no place is a request refused with ESME_RINVMSGID
abbrev IsKnown : List Print → Type 0
IsKnown prints = (session : ℕ) (pdu : Pdu) → In (AtOnce session pdu) prints → pdu.status ≢ status_code statuses.InvalidMessageId

nothing_known : IsKnown []
nothing_known session pdu among = absurd among

only_known : (number : ℕ) (one : Pdu) → one.status ≢ status_code statuses.InvalidMessageId → IsKnown (AtOnce number one ∷ [])
only_known number one never session pdu (inl same) is = never (ap (λ (p : Pdu). p.status) (sym (the_pdu same)) ∙ is)
  where
    the_pdu : AtOnce session pdu ≡ AtOnce number one → pdu ≡ one
    the_pdu same = cc
only_known number one never session pdu (inr none) is = none

-- ---- what the node says at once

module _ (number : ℕ) (node : Node) (requested : Requested) (sequence : ℕ) where
  abbrev says : Input → List Print
  says input = refusal_prints number requested sequence (step_at node input).outputs.refused

  refusal_known : (status : ℕ) → status ≢ status_code statuses.InvalidMessageId → IsKnown (says (Refusal status))
  refusal_known status never = by_up node.kept.up
    where
      by_up : (up : Bool) → IsKnown (refusal_prints number requested sequence
          (if up then stepped_up node.setup node.kept (Refusal status) else stepped_down node.setup node.kept (Refusal status)).outputs.refused)
      by_up true = only_known number _ never
      by_up false = nothing_known

  arrival_known : (request : Waited) → IsKnown (says (Arrival request))
  arrival_known request = by_up node.kept.up
    where
      by_up : (up : Bool) → IsKnown (refusal_prints number requested sequence
          (if up then stepped_up node.setup node.kept (Arrival request) else stepped_down node.setup node.kept (Arrival request)).outputs.refused)
      by_up true = nothing_known
      by_up false = nothing_known

  about_known : (ask : ℕ → Waited) (busy : Bool) (found : Option ℕ) (id : ℕ) → found ≡ Some id → IsKnown (says (judged_as (asks_about ask (about busy found))))
  about_known ask busy None id is = absurd cc
  about_known ask true (Some other) id is = refusal_known (status_code statuses.Throttled) (λ same. omega (arith, same))
  about_known ask false (Some other) id is = arrival_known (ask other)

  -- ---- a query_sm, and a cancel_sm

  module _ (account : List ℕ) (id : ℕ) (is_id : IsId id) where
    named : (message_id : List ℕ) → message_id ≡ decimal id → id_in message_id ≡ Some id
    named message_id is = (ids_and_texts message_id id).1 (is_id, is)

    query_known : (query : QueryBody) → NamesMessage id (bodies.QuerySm query) →
        IsKnown (says (judged_as (admitted (door_at node.setup node.kept) (next_id node.setup node.kept) account (Ask query))))
    query_known query names =
        about_known (λ other. Query other account query.source.digits) (door_at node.setup node.kept).busy (id_in query.message_id) id
        (named query.message_id names)

    cancel_known : (cancel : CancelBody) → NamesMessage id (bodies.CancelSm cancel) →
        IsKnown (says (judged_as (admitted (door_at node.setup node.kept) (next_id node.setup node.kept) account (Cancels cancel))))
    cancel_known cancel names = by_empty (bytes_eq cancel.message_id [])
      where
        by_empty : (empty : Bool) → IsKnown (says (judged_as (if empty then Err statuses.CancelFailed
            else asks_about (λ other. Cancel other account cancel.source.digits cancel.destination.digits)
            (about (door_at node.setup node.kept).busy (id_in cancel.message_id)))))
        by_empty true = refusal_known (status_code statuses.CancelFailed) (λ same. omega (arith, same))
        by_empty false =
            about_known (λ other. Cancel other account cancel.source.digits cancel.destination.digits) (door_at node.setup node.kept).busy
            (id_in cancel.message_id) id (named cancel.message_id names)

-- ---- a frame

module _ (settings : Settings) (number : ℕ) (node : Node) (session : Session) (id : ℕ) (is_id : IsId id) where
  request_known : (requested : Requested) (sequence : ℕ) (account : Option (List ℕ)) (request : Request) →
      ((holder : List ℕ) → IsKnown (says number node requested sequence
      (judged_as (admitted (door_at node.setup node.kept) (next_id node.setup node.kept) holder request)))) →
      IsKnown (on_request number node session requested sequence account (Some request)).prints
  request_known requested sequence None request known = nothing_known
  request_known requested sequence (Some account) request known = known account

  query_served : (status sequence : ℕ) (query : QueryBody) → NamesMessage id (bodies.QuerySm query) → (state : SessionState) →
      let asked : Pdu = record { status = status; sequence = sequence; body = bodies.QuerySm query } in
      IsKnown (on_done settings number node (came_by settings asked) (on_cell settings.accounts session asked
      (in_state state unfit Asks unfit Asks Drops))).prints
  query_served status sequence query names state = by_state state
    where
      asked : Pdu
      asked = record { status = status; sequence = sequence; body = bodies.QuerySm query }

      unfit_known : IsKnown (on_done settings number node (came_by settings asked) (on_cell settings.accounts session asked unfit)).prints
      unfit_known = only_known number _ (λ same. omega (arith, same))

      asks_known : IsKnown (on_done settings number node (came_by settings asked) (on_cell settings.accounts session asked Asks)).prints
      asks_known = by_room (has_room session.requests)
        where
          by_room : (room : Bool) → IsKnown (on_reaction settings number node (came_by settings asked) session
              (if room then reactions.Ask requests.QuerySm else refused sequence (Some requests.QuerySm) statuses.Throttled)).prints
          by_room true =
              request_known requests.QuerySm sequence session.account (Ask query)
              (λ account. query_known number node requests.QuerySm sequence account id is_id query names)
          by_room false = only_known number _ (λ same. omega (arith, same))

      by_state : (state : SessionState) → IsKnown (on_done settings number node (came_by settings asked) (on_cell settings.accounts session asked
          (in_state state unfit Asks unfit Asks Drops))).prints
      by_state states.Fresh = unfit_known
      by_state states.Transmitter = asks_known
      by_state states.Receiver = unfit_known
      by_state states.Transceiver = asks_known
      by_state states.Gone = nothing_known

  cancel_served : (status sequence : ℕ) (cancel : CancelBody) → NamesMessage id (bodies.CancelSm cancel) → (state : SessionState) →
      let asked : Pdu = record { status = status; sequence = sequence; body = bodies.CancelSm cancel } in
      IsKnown (on_done settings number node (came_by settings asked) (on_cell settings.accounts session asked
      (in_state state unfit Asks unfit Asks Drops))).prints
  cancel_served status sequence cancel names state = by_state state
    where
      asked : Pdu
      asked = record { status = status; sequence = sequence; body = bodies.CancelSm cancel }

      unfit_known : IsKnown (on_done settings number node (came_by settings asked) (on_cell settings.accounts session asked unfit)).prints
      unfit_known = only_known number _ (λ same. omega (arith, same))

      asks_known : IsKnown (on_done settings number node (came_by settings asked) (on_cell settings.accounts session asked Asks)).prints
      asks_known = by_room (has_room session.requests)
        where
          by_room : (room : Bool) → IsKnown (on_reaction settings number node (came_by settings asked) session
              (if room then reactions.Ask requests.CancelSm else refused sequence (Some requests.CancelSm) statuses.Throttled)).prints
          by_room true =
              request_known requests.CancelSm sequence session.account (Cancels cancel)
              (λ account. cancel_known number node requests.CancelSm sequence account id is_id cancel names)
          by_room false = only_known number _ (λ same. omega (arith, same))

      by_state : (state : SessionState) → IsKnown (on_done settings number node (came_by settings asked) (on_cell settings.accounts session asked
          (in_state state unfit Asks unfit Asks Drops))).prints
      by_state states.Fresh = unfit_known
      by_state states.Transmitter = asks_known
      by_state states.Receiver = unfit_known
      by_state states.Transceiver = asks_known
      by_state states.Gone = nothing_known

  body_served : (status sequence : ℕ) (body : Body) → NamesMessage id body → (octets : List ℕ) →
      IsKnown (on_read settings number node session octets (Ok (record { status = status; sequence = sequence; body = body }))).prints
  body_served status sequence (bodies.QuerySm query) names octets = query_served status sequence query names session.state
  body_served status sequence (bodies.CancelSm cancel) names octets = cancel_served status sequence cancel names session.state
  body_served status sequence other names octets = absurd names

pub ids_known : (settings : Settings) (number session : ℕ) (runner : Runner) (frame : List ℕ) (asked : Pdu) (id : ℕ) (pdu : Pdu) → read_pdu frame ≡ Ok asked →
    NamesMessage id asked.body → IsId id → In (AtOnce session pdu) (on_frame settings number runner frame).prints →
    pdu.status ≢ status_code statuses.InvalidMessageId
unfolding on_frame
ids_known settings number session runner frame asked id pdu reads names is_id among =
    let held = session_in runner.sessions number in
    let served = on_read settings number runner.node held frame (read_pdu frame) in
    let next = (served_at runner number served).next in
    elim (in_either (AtOnce session pdu) served.prints (posted_for_any next.node.kept.clock (mail_of next) served.next.session.account).prints among) [
      | inl here ↦
          subst (λ (read : Result Pdu PduFault). IsKnown (on_read settings number runner.node held frame read).prints) (sym reads)
          (body_served settings number runner.node held id is_id asked.status asked.sequence asked.body names frame) session pdu here
      | inr there ↦
          let posts = posted_for_any_posts next.node.kept.clock (mail_of next) served.next.session.account in
          absurd ((posts.quiet (AtOnce session pdu) there).once session pdu refl)
    ]
