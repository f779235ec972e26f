-- What comes to a node at rest by the request of an account: it is not busy, and looks at the clock and the serial of the table.
use Rattle.std.proofs.Common.{◌≡◌, ℕ, ◌≤◌, Bool, true, false, cond, List, [], length, Option, Some, None, Result, Ok, Err, refl, ◌∙◌, ap, subst}
use Rattle.std.specs.Prelude.{◌||◌, nat_le, nat_lt}
use Rattle.std.specs.Str.{bytes_eq}
use Rattle.std.proofs.lemmas.Bool.{le-ltb, ltb-false}
use Rattle.mc_model.specs.message.Ids.{id_of, most_serial}
use Rattle.mc_model.specs.node.Actor.{Cancel, Query, Request, Submit}
use Rattle.mc_model.specs.node.Room.{is_busy, last_ticket}
use Rattle.mc_types.specs.Texts.{id_in}
use Rattle.node_model.specs.Kept.{Held, Kept}
use Rattle.table_laws.specs.Alone.{alone}
use Rattle.table_laws.specs.Resting.{IsResting}
use Rattle.table_laws.specs.Tables.{MayCome, TableNode}
use Rattle.pdu_tables.specs.declared.status.Status.{Status}
use Rattle.pdu_tables.specs.declared.status.Status.TheVariants as statuses
use Rattle.pdu_bodies.specs.declared.pdu.Message.{Message}
use Rattle.desk.specs.Admissions.{about, admitted, asks_about, routed_as, taken_as}
use Rattle.desk.specs.Arrivals.{door_at, judged_as, requested}
use Rattle.desk.specs.Arrivals as arrivals
use Rattle.desk.specs.Desk.{fields_refusal, is_too_long, submission_of, submit_judged, unless, with_room}
use Rattle.desk.specs.Times.{Times, times_of}
use Rattle.desk.specs.declared.request.Request.{Request as Asked}
use Rattle.desk.specs.declared.request.Request.TheVariants as asked
use Rattle.script_text.specs.Settings.{Settings}
use Rattle.script_text.specs.OneNode.{door_of, next_id}

module _ (settings : Settings) (first : ℕ) (k : Kept) (t : TableNode) (resting : IsResting k t) (left : t.ticket ≤ last_ticket) where
  not_busy : is_busy (length k.held) k.ticket ≡ false
  not_busy =
      ap (λ (held : List Held). is_busy (length held) k.ticket) resting.waits
      ∙ ap (λ (ticket : ℕ). is_busy 0 ticket) resting.ticket
      ∙ ap (λ (b : Bool). nat_le 1000 0 || b) (le-ltb last_ticket t.ticket left)

  door_is : door_at (alone first settings.validity) k ≡ door_of settings t
  door_is = λ i. record { clock = resting.clock i; validity = settings.validity; serial = resting.serial i; busy = not_busy i }

  id_is : arrivals.next_id (alone first settings.validity) k ≡ next_id t
  id_is = λ i. id_of 1 (resting.incarnation i) (resting.serial i)

  pub request_is : (account : List ℕ) (request : Asked) →
      requested (alone first settings.validity) k account request ≡ judged_as (admitted (door_of settings t) (next_id t) account request)
  request_is account request = λ i. judged_as (admitted (door_is i) (id_is i) account request)

-- ---- a serial is left if a submit_sm is not refused

with_room_left : (serial : ℕ) (times : Result Times Status) (taken : Times) → with_room serial false times ≡ Ok taken → serial ≤ most_serial
with_room_left serial (Err status) taken is = absurd cc
with_room_left serial (Ok times) taken is = at_test (nat_lt most_serial serial) refl is
  where
    at_test : (full : Bool) → nat_lt most_serial serial ≡ full →
        unless (cond full (Some statuses.MessageQueueFull) None) (Ok times) ≡ Ok taken → serial ≤ most_serial
    at_test true full is = absurd cc
    at_test false full is = ltb-false most_serial serial full

serial_left : (refusal : Option Status) (serial : ℕ) (times : Result Times Status) (taken : Times) →
    unless refusal (with_room serial false times) ≡ Ok taken → serial ≤ most_serial
serial_left None serial times taken is = with_room_left serial times taken is
serial_left (Some status) serial times taken is = absurd cc

-- ---- what is admitted may come to the table

module _ (settings : Settings) (t : TableNode) (least : 1 ≤ t.serial) (account : List ℕ) (request : Request) where
  -- so is what this gives
  abbrev Comes : Result Request Status → Type 0
  Comes given = given ≡ Ok request → MayCome t request

  taken_comes : (message : Message) (target : List ℕ) (judged : Result Times Status) →
      submit_judged true t.clock settings.validity t.serial false message ≡ judged → Comes (taken_as (next_id t) account target message judged)
  taken_comes message target (Err status) judged is = absurd cc
  taken_comes message target (Ok times) judged is =
      let same : Submit (next_id t) (submission_of account target times message) ≡ request = cc in
      let most = serial_left (fields_refusal true message) t.serial (times_of settings.validity t.clock message) times judged in
      subst (MayCome t) same (record { serial = record { least = least; most = most }; id_is = refl })

  query_comes : (source : List ℕ) (found : Option ℕ) → Comes (asks_about (λ id. Query id account source) (about false found))
  query_comes source None is = absurd cc
  query_comes source (Some id) is =
      let same : Query id account source ≡ request = cc in
      subst (MayCome t) same tt

  cancel_comes : (source destination : List ℕ) (found : Option ℕ) → Comes (asks_about (λ id. Cancel id account source destination) (about false found))
  cancel_comes source destination None is = absurd cc
  cancel_comes source destination (Some id) is =
      let same : Cancel id account source destination ≡ request = cc in
      subst (MayCome t) same tt

  unless_empty : (empty : Bool) (given : Result Request Status) → Comes given → Comes (cond empty (Err statuses.CancelFailed) given)
  unless_empty true given comes is = absurd cc
  unless_empty false given comes is = comes is

  pub may_come : (question : Asked) → admitted (door_of settings t) (next_id t) account question ≡ Ok request → MayCome t request
  may_come (asked.Submit message target) is = unless_long (is_too_long message) target is
    where
      unless_long : (long : Bool) (target : Option (List ℕ)) →
          Comes (cond long (Err statuses.InvalidMessageLength) (routed_as (door_of settings t) (next_id t) account message target))
      unless_long true target is = absurd cc
      unless_long false None is = absurd cc
      unless_long false (Some target) is = taken_comes message target (submit_judged true t.clock settings.validity t.serial false message) refl is
  may_come (asked.Ask query) is = query_comes query.source.digits (id_in query.message_id) is
  may_come (asked.Cancel cancel) is =
      unless_empty (bytes_eq cancel.message_id []) _ (cancel_comes cancel.source.digits cancel.destination.digits (id_in cancel.message_id)) is
