-- What waits of a request that is not refused at once (SMPP 3.4, 4.4, 4.8 and 4.9).
use Rattle.std.specs.Prelude.{◌≡◌, ℕ, ◌<◌, ◌≤◌, Bool, true, false, List, [], Option, Some, None, Result, Ok, Err, if◌then◌else◌}
use Rattle.std.specs.Str.{bytes_eq}
use Rattle.mc_model.specs.message.Ids.{most_serial}
use Rattle.mc_model.specs.node.Actor.{Cancel, Query, Request, Submit}
use Rattle.mc_types.specs.Texts.{id_in}
use Rattle.pdu_tables.specs.declared.status.Status.{Status}
use Rattle.pdu_tables.specs.declared.status.Status.TheVariants as statuses
use Rattle.pdu_bodies.specs.declared.pdu.Message.{Message}
use Rattle.desk.specs.declared.door.Admitted.{Admitted}
use Rattle.desk.specs.declared.door.Admitted.TheVariants as admissions
use Rattle.desk.specs.declared.door.Door.{Door}
use Rattle.desk.specs.declared.request.Request.{Request as Asked}
use Rattle.desk.specs.declared.request.Request.TheVariants as asked
use Rattle.desk.specs.Desk.{is_too_long, submission_of, submit_judged}
use Rattle.desk.specs.Times.{Times}

-- the id that a request names, if another request may wait
abbrev pub about : Bool → Option ℕ → Result ℕ Status
about busy None = Err statuses.InvalidMessageId
about busy (Some id) = if busy then Err statuses.Throttled else Ok id

abbrev pub asks_about : (ℕ → Request) → Result ℕ Status → Result Request Status
asks_about ask (Ok id) = Ok (ask id)
asks_about ask (Err status) = Err status

abbrev pub taken_as : ℕ → List ℕ → List ℕ → Message → Result Times Status → Result Request Status
taken_as next account target message (Ok times) = Ok (Submit next (submission_of account target times message))
taken_as next account target message (Err status) = Err status

-- no route leads from the destination, or one to this account
abbrev pub routed_as : Door → ℕ → List ℕ → Message → Option (List ℕ) → Result Request Status
routed_as door next account message None = Err statuses.InvalidDestinationAddress
routed_as door next account message (Some target) =
    taken_as next account target message (submit_judged true door.clock door.validity door.serial door.busy message)

-- a text that is too long is refused before that is looked at
abbrev pub submitted_as : Door → ℕ → List ℕ → Message → Option (List ℕ) → Result Request Status
submitted_as door next account message target =
    if is_too_long message then Err statuses.InvalidMessageLength else routed_as door next account message target

-- a request of an account, of which a submit_sm gets the id that is next
abbrev pub admitted : Door → ℕ → List ℕ → Asked → Result Request Status
admitted door next account (asked.Submit message target) = submitted_as door next account message target
admitted door next account (asked.Ask query) =
    asks_about (λ id. Query id account query.source.digits) (about door.busy (id_in query.message_id))
admitted door next account (asked.Cancel cancel) =
    if bytes_eq cancel.message_id [] then Err statuses.CancelFailed
    else asks_about (λ id. Cancel id account cancel.source.digits cancel.destination.digits) (about door.busy (id_in cancel.message_id))

-- the same of the code
abbrev pub asked_of : ℕ → Admitted → Request
asked_of next (admissions.Submit message) = Submit next message
asked_of next (admissions.Query id account source) = Query id account source
asked_of next (admissions.Cancel id account source destination) = Cancel id account source destination

abbrev pub asked_as : ℕ → Result Admitted Status → Result Request Status
asked_as next (Ok one) = Ok (asked_of next one)
asked_as next (Err status) = Err status

-- there is room for it, and for a submit_sm a serial, and its times are to come
abbrev pub MayBegin : Door → Admitted → Type 0
MayBegin door (admissions.Submit message) = (door.serial ≤ most_serial) × (door.clock < message.expiry) × (message.schedule < message.expiry)
MayBegin door (admissions.Query id account source) = Unit {0}
MayBegin door (admissions.Cancel id account source destination) = Unit {0}

pub record MayWait (door : Door) (one : Admitted) : Type 0 where
  pub free : door.busy ≡ false
  pub begins : MayBegin door one
