-- What comes to a node by the request of an account may come to it.
use Rattle.std.proofs.Common.{◌≡◌, ℕ, ◌+◌, ◌*◌, ◌<◌, ◌≤◌, ◌^◌, Bool, true, false, List, [], ◌∷◌, length, Option, Some, None, Result, Ok}
use Rattle.std.proofs.Common.{Err, refl, subst, arith}
use Rattle.std.specs.Prelude.{◌||◌, ◌&&◌, nat_le, nat_lt, not, if◌then◌else◌}
use Rattle.std.specs.Str.{bytes_eq}
use Rattle.std.specs.Str.Parse.{digits_value}
use Rattle.std.proofs.lemmas.Bool.{and_parts}
use Rattle.std.proofs.lemmas.Bool.Decides.{nat_tests}
use Rattle.mc_model.specs.message.Ids.{IsIncarnation, IsNode, IsSerial, id_of, incarnation_of, most_serial, node_of}
use Rattle.mc_model.specs.synod.Packet.{Packet}
use Rattle.mc_model.specs.node.Actor.{Cancel, Query, Request, Submit}
use Rattle.mc_model.specs.node.Input.{Arrival, Input, Refusal}
use Rattle.mc_model.specs.node.Room.{is_busy, queue_full, throttled}
use Rattle.mc_model.specs.node.Setup.{Setup}
use Rattle.mc_types.specs.Texts.{id_in, is_id, is_ten_digits}
use Rattle.node_model.specs.Kept.{Kept}
use Rattle.node_laws.specs.Clusters.{WasSentBefore}
use Rattle.node_laws.specs.Runs.{MayCome}
use Rattle.smpp_time.specs.Texts.{time_said}
use Rattle.smpp_time.specs.declared.fault.TimeFault.{TimeFault}
use Rattle.pdu_tables.specs.StatusCodes.{status_code}
use Rattle.pdu_tables.specs.declared.status.Status.{Status}
use Rattle.pdu_tables.specs.declared.status.Status.TheVariants as statuses
use Rattle.pdu_bodies.specs.declared.pdu.Message.{Message}
use Rattle.desk.specs.Admissions.{about, asks_about, routed_as, submitted_as, taken_as}
use Rattle.desk.specs.Arrivals.{door_at, judged_as, next_id, requested}
use Rattle.desk.specs.Desk.{asks_reserved_receipt, fields_refusal, first_failing, is_too_long, submission_of, submit_judged, unless, with_room}
use Rattle.desk.specs.Times.{Times, in_order, times_judged, times_of}
use Rattle.desk.specs.declared.request.Request.{Request as Asked}
use Rattle.desk.specs.declared.request.Request.TheVariants as asked
use Rattle.arrival_laws.proofs.Comings.{ComesAbout, IsPlain}

-- It may come, no packet has to be sent before, and the id of a request is a short number.
pub record MayBeAsked (setup : Setup) (k : Kept) (input : Input) : Type 0 where
  pub plain : IsPlain input
  pub may : MayCome setup k input
  pub unsent : (packets : List Packet) → WasSentBefore packets input
  pub small : (id : ℕ) → ComesAbout input id → id < 2 ^ 64

-- ---- refusals

-- a status that tells of no want of room, or tells of it rightly
pub record IsFitRefusal (serial : ℕ) (busy : Bool) (status : Status) : Type 0 where
  pub throttles : status_code status ≡ throttled → busy ≡ true
  pub fills : status_code status ≡ queue_full → most_serial < serial

refusal_comes : (setup : Setup) (k : Kept) (status : Status) → IsFitRefusal k.serial (is_busy (length k.held) k.ticket) status →
    MayBeAsked setup k (Refusal (status_code status))
refusal_comes setup k status fits = record {
  plain = tt;
  may = (fits.throttles, fits.fills);
  unsent = λ packets. tt;
  small = λ id about. absurd about;
}

module _ (serial : ℕ) (busy : Bool) where
  no_id_fits : IsFitRefusal serial busy statuses.InvalidMessageId
  no_id_fits = record { throttles = λ is. absurd (omega (arith, is)); fills = λ is. absurd (omega (arith, is)) }

  no_route_fits : IsFitRefusal serial busy statuses.InvalidDestinationAddress
  no_route_fits = record { throttles = λ is. absurd (omega (arith, is)); fills = λ is. absurd (omega (arith, is)) }

  no_length_fits : IsFitRefusal serial busy statuses.InvalidMessageLength
  no_length_fits = record { throttles = λ is. absurd (omega (arith, is)); fills = λ is. absurd (omega (arith, is)) }

  no_receipt_fits : IsFitRefusal serial busy statuses.InvalidRegisteredDelivery
  no_receipt_fits = record { throttles = λ is. absurd (omega (arith, is)); fills = λ is. absurd (omega (arith, is)) }

  no_cancel_fits : IsFitRefusal serial busy statuses.CancelFailed
  no_cancel_fits = record { throttles = λ is. absurd (omega (arith, is)); fills = λ is. absurd (omega (arith, is)) }

  no_schedule_fits : IsFitRefusal serial busy statuses.InvalidSchedule
  no_schedule_fits = record { throttles = λ is. absurd (omega (arith, is)); fills = λ is. absurd (omega (arith, is)) }

  no_expiry_fits : IsFitRefusal serial busy statuses.InvalidExpiry
  no_expiry_fits = record { throttles = λ is. absurd (omega (arith, is)); fills = λ is. absurd (omega (arith, is)) }

  queue_fits : most_serial < serial → IsFitRefusal serial busy statuses.MessageQueueFull
  queue_fits full = record { throttles = λ is. absurd (omega (arith, is)); fills = λ is. full }

  throttle_fits : busy ≡ true → IsFitRefusal serial busy statuses.Throttled
  throttle_fits is_so = record { throttles = λ is. is_so; fills = λ is. absurd (omega (arith, is)) }

-- ---- the times of a submit_sm

-- a message of these times may be taken now
pub record IsTimely (clock : ℕ) (times : Times) : Type 0 where
  pub expiry : clock < times.expiry
  pub schedule : times.schedule < times.expiry

-- there is a serial for it, and room
pub record HasRoom (serial : ℕ) (busy : Bool) : Type 0 where
  pub least : serial ≤ most_serial
  pub free : busy ≡ false

module _ (serial : ℕ) (busy : Bool) (clock : ℕ) where
  abbrev AreTimes : Result Times Status → Type 0
  AreTimes (Ok times) = IsTimely clock times
  AreTimes (Err status) = IsFitRefusal serial busy status

  abbrev IsJudged : Result Times Status → Type 0
  IsJudged (Ok times) = IsTimely clock times × HasRoom serial busy
  IsJudged (Err status) = IsFitRefusal serial busy status

  in_order_so : (times : Times) → AreTimes (in_order clock times)
  in_order_so times = by_expiry (nat_le times.expiry clock) refl
    where
      by_schedule : nat_le times.expiry clock ≡ false → (late : Bool) → nat_le times.expiry times.schedule ≡ late →
          AreTimes (if late then Err statuses.InvalidSchedule else Ok times)
      by_schedule before true is = no_schedule_fits serial busy
      by_schedule before false is = record { expiry = grind (arith, nat_tests); schedule = grind (arith, nat_tests) }

      by_expiry : (late : Bool) → nat_le times.expiry clock ≡ late →
          AreTimes (if late then Err statuses.InvalidExpiry else (if nat_le times.expiry times.schedule then Err statuses.InvalidSchedule else Ok times))
      by_expiry true is = no_expiry_fits serial busy
      by_expiry false is = by_schedule is (nat_le times.expiry times.schedule) refl

  times_so : (validity : ℕ) (message : Message) → AreTimes (times_of validity clock message)
  times_so validity message = by_texts (time_said message.schedule_delivery_time clock) (time_said message.validity_period clock)
    where
      by_texts : (schedule expiry : Result (Option ℕ) TimeFault) → AreTimes (times_judged validity clock schedule expiry)
      by_texts (Err fault) expiry = no_schedule_fits serial busy
      by_texts (Ok schedule) (Err fault) = no_expiry_fits serial busy
      by_texts (Ok schedule) (Ok expiry) = in_order_so _

  room_so : (times : Result Times Status) → AreTimes times → IsJudged (with_room serial busy times)
  room_so (Err status) fits = fits
  room_so (Ok times) timely = by_serial (nat_lt most_serial serial) refl
    where
      by_busy : nat_lt most_serial serial ≡ false → (test : Bool) → busy ≡ test →
          IsJudged (unless (first_failing ((test, statuses.Throttled) ∷ [])) (Ok times))
      by_busy left true is = throttle_fits serial busy is
      by_busy left false is = (timely, record { least = grind (arith, nat_tests); free = is })

      by_serial : (full : Bool) → nat_lt most_serial serial ≡ full →
          IsJudged (unless (first_failing ((full, statuses.MessageQueueFull) ∷ (busy, statuses.Throttled) ∷ [])) (Ok times))
      by_serial true is = queue_fits serial busy (grind (arith, nat_tests))
      by_serial false is = by_busy is busy refl

  fields_so : (message : Message) (times : Result Times Status) → IsJudged times → IsJudged (unless (fields_refusal true message) times)
  fields_so message times judged = by_destination (bytes_eq message.destination.digits [] || not true)
    where
      by_receipt : (reserved : Bool) → IsJudged (unless (first_failing ((reserved, statuses.InvalidRegisteredDelivery) ∷ [])) times)
      by_receipt true = no_receipt_fits serial busy
      by_receipt false = judged

      by_destination : (missing : Bool) → IsJudged (unless
          (first_failing ((missing, statuses.InvalidDestinationAddress) ∷ (asks_reserved_receipt message, statuses.InvalidRegisteredDelivery) ∷ [])) times)
      by_destination true = no_route_fits serial busy
      by_destination false = by_receipt (asks_reserved_receipt message)

  submit_so : (validity : ℕ) (message : Message) → IsJudged (submit_judged true clock validity serial busy message)
  submit_so validity message = fields_so message _ (room_so _ (times_so validity message))

-- ---- ids

pub id_small : (text : List ℕ) (id : ℕ) → id_in text ≡ Some id → id < 2 ^ 64
unfolding id_in
id_small text id is = by_test (is_ten_digits text && is_id (digits_value 10 text)) refl is
  where
    by_test : (test : Bool) → (is_ten_digits text && is_id (digits_value 10 text)) ≡ test →
        (if test then Some (digits_value 10 text) else None) ≡ Some id → id < 2 ^ 64
    by_test true passes found =
        let same : digits_value 10 text ≡ id = cc in
        let ids : is_id (digits_value 10 text) ≡ true = (and_parts (is_ten_digits text) (is_id (digits_value 10 text)) passes).1 in
        let within : node_of (digits_value 10 text) ≤ 9 = grind (arith, nat_tests) in
        subst (λ (n : ℕ). n < 2 ^ 64) same (omega (arith, within))
    by_test false fails found = absurd cc

module _ (node incarnation serial : ℕ) (lives : IsIncarnation incarnation) (is_serial : IsSerial serial) where
  most : 100000 * incarnation + serial < 1000000000
  most = omega (arith, lives.most, is_serial.most)

  pub node_is : node ≡ node_of (id_of node incarnation serial)
  node_is = omega (arith, most)

  pub incarnation_is : incarnation ≡ incarnation_of (id_of node incarnation serial)
  incarnation_is = omega (arith, lives.most, is_serial.most)

-- ---- requests

module _ (setup : Setup) (k : Kept) (is_node : IsNode setup.node) (lives : IsIncarnation k.incarnation) (begun : 1 ≤ k.serial) where
  abbrev busy : Bool
  busy = is_busy (length k.held) k.ticket

  submit_comes : (account target : List ℕ) (message : Message) (times : Times) → IsTimely k.clock times → HasRoom k.serial busy →
      MayBeAsked setup k (Arrival (Submit (next_id setup k) (submission_of account target times message)))
  submit_comes account target message times timely room =
      let serial : IsSerial k.serial = record { least = begun; most = room.least } in
      record {
        plain = tt;
        may = (
          room.free,
          record {
            serial = serial;
            id_is = refl;
            takes = record {
              node = node_is setup.node k.incarnation k.serial lives serial;
              incarnation = incarnation_is setup.node k.incarnation k.serial lives serial;
              expiry = timely.expiry;
              schedule = timely.schedule;
            };
          },
        );
        unsent = λ packets. tt;
        small = λ id about. subst (λ (n : ℕ). n < 2 ^ 64) about (omega (arith, is_node.most, lives.most, serial.most));
      }

  submitted_comes : (account : List ℕ) (message : Message) (target : Option (List ℕ)) →
      MayBeAsked setup k (judged_as (submitted_as (door_at setup k) (next_id setup k) account message target))
  submitted_comes account message target = by_length (is_too_long message) target
    where
      by_judged : (target : List ℕ) → (judged : Result Times Status) → IsJudged k.serial busy k.clock judged →
          MayBeAsked setup k (judged_as (taken_as (next_id setup k) account target message judged))
      by_judged target (Ok times) so = submit_comes account target message times so.0 so.1
      by_judged target (Err status) fits = refusal_comes setup k status fits

      by_length : (long : Bool) (target : Option (List ℕ)) → MayBeAsked setup k (judged_as
          (if long then Err statuses.InvalidMessageLength else routed_as (door_at setup k) (next_id setup k) account message target))
      by_length true target = refusal_comes setup k statuses.InvalidMessageLength (no_length_fits k.serial busy)
      by_length false None = refusal_comes setup k statuses.InvalidDestinationAddress (no_route_fits k.serial busy)
      by_length false (Some target) =
          by_judged target (submit_judged true k.clock setup.default_validity k.serial busy message)
          (submit_so k.serial busy k.clock setup.default_validity message)

  -- a request that names an id
  named_comes : (ask : ℕ → Request) → ((id : ℕ) → busy ≡ false → id < 2 ^ 64 → MayBeAsked setup k (Arrival (ask id))) → (text : List ℕ) →
      MayBeAsked setup k (judged_as (asks_about ask (about busy (id_in text))))
  named_comes ask comes text = by_id (id_in text) refl
    where
      by_busy : (id : ℕ) → id < 2 ^ 64 → (test : Bool) → busy ≡ test →
          MayBeAsked setup k (judged_as (asks_about ask (if test then Err statuses.Throttled else Ok id)))
      by_busy id small true is = refusal_comes setup k statuses.Throttled (throttle_fits k.serial busy is)
      by_busy id small false is = comes id is small

      by_id : (found : Option ℕ) → id_in text ≡ found → MayBeAsked setup k (judged_as (asks_about ask (about busy found)))
      by_id None is = refusal_comes setup k statuses.InvalidMessageId (no_id_fits k.serial busy)
      by_id (Some id) is = by_busy id (id_small text id is) busy refl

  pub request_comes : (account : List ℕ) (request : Asked) → MayBeAsked setup k (requested setup k account request)
  request_comes account (asked.Submit message target) = submitted_comes account message target
  request_comes account (asked.Ask query) = named_comes (λ id. Query id account query.source.digits)
      (λ id free small. record { plain = tt; may = (free, tt); unsent = λ packets. tt; small = λ other about. subst (λ (n : ℕ). n < 2 ^ 64) about small })
      query.message_id
  request_comes account (asked.Cancel cancel) = by_text (bytes_eq cancel.message_id [])
    where
      by_text : (none : Bool) → MayBeAsked setup k (judged_as (if none then Err statuses.CancelFailed
          else asks_about (λ id. Cancel id account cancel.source.digits cancel.destination.digits) (about busy (id_in cancel.message_id))))
      by_text true = refusal_comes setup k statuses.CancelFailed (no_cancel_fits k.serial busy)
      by_text false = named_comes (λ id. Cancel id account cancel.source.digits cancel.destination.digits)
          (λ id free small. record { plain = tt; may = (free, tt); unsent = λ packets. tt; small = λ other about. subst (λ (n : ℕ). n < 2 ^ 64) about small })
          cancel.message_id
