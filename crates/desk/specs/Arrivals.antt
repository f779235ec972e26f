-- What comes to a node by the request of an account, by what the node keeps (own).
use Rattle.std.specs.Prelude.{ℕ, List, length, Result, Ok, Err}
use Rattle.mc_model.specs.message.Ids.{id_of}
use Rattle.mc_model.specs.node.Actor.{Request}
use Rattle.mc_model.specs.node.Input.{Arrival, Input, Refusal}
use Rattle.mc_model.specs.node.Room.{is_busy}
use Rattle.mc_model.specs.node.Setup.{Setup}
use Rattle.node_model.specs.Kept.{Kept}
use Rattle.pdu_tables.specs.StatusCodes.{status_code}
use Rattle.pdu_tables.specs.declared.status.Status.{Status}
use Rattle.desk.specs.Admissions.{admitted}
use Rattle.desk.specs.declared.door.Door.{Door}
use Rattle.desk.specs.declared.request.Request.{Request as Asked}

-- what is looked at when a request comes, and the id that a submit_sm gets
abbrev pub door_at : Setup → Kept → Door
door_at setup k =
    record { clock = k.clock; validity = setup.default_validity; serial = k.serial; busy = is_busy (length k.held) k.ticket }

abbrev pub next_id : Setup → Kept → ℕ
next_id setup k = id_of setup.node k.incarnation k.serial

abbrev pub judged_as : Result Request Status → Input
judged_as (Ok request) = Arrival request
judged_as (Err status) = Refusal (status_code status)

-- it waits, or is refused at once
abbrev pub requested : Setup → Kept → List ℕ → Asked → Input
requested setup k account request = judged_as (admitted (door_at setup k) (next_id setup k) account request)
