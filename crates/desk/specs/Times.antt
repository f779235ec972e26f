-- From when and up to when a message may be delivered (SMPP 3.4, 5.2.15 and 5.2.16).
use Rattle.std.specs.Prelude.{ℕ, ◌+◌, ◌<◌, nat_le, max, min, Option, Some, None, Result, Ok, Err, if◌then◌else◌}
use Rattle.smpp_time.specs.Texts.{time_said}
use Rattle.smpp_time.specs.declared.fault.TimeFault.{TimeFault}
use Rattle.pdu_tables.specs.declared.status.Status.{Status}
use Rattle.pdu_tables.specs.declared.status.Status.TheVariants as statuses
use Rattle.pdu_bodies.specs.declared.pdu.Message.{Message}

pub record Times : Type 0 where
  pub schedule : ℕ
  pub expiry : ℕ

-- from when: now, or the later moment that schedule_delivery_time names (own)
abbrev pub schedule_from : ℕ → Option ℕ → ℕ
schedule_from now None = now
schedule_from now (Some moment) = max moment now

-- up to when: the moment that validity_period names, or so many seconds after the schedule, at most the last moment (own)
abbrev pub expiry_from : ℕ → ℕ → Option ℕ → ℕ
expiry_from validity schedule None = min (schedule + validity) 4102444799
expiry_from validity schedule (Some moment) = moment

-- an expiry that has come is refused before a schedule that is not before the expiry (own)
abbrev pub in_order : ℕ → Times → Result Times Status
in_order now times =
    if nat_le times.expiry now then Err statuses.InvalidExpiry
    else (if nat_le times.expiry times.schedule then Err statuses.InvalidSchedule else Ok times)

abbrev pub timed : ℕ → ℕ → ℕ → Option ℕ → Result Times Status
timed validity now schedule said = in_order now (record { schedule = schedule; expiry = expiry_from validity schedule said })

-- what the two texts say, judged in this order
abbrev pub times_judged : ℕ → ℕ → Result (Option ℕ) TimeFault → Result (Option ℕ) TimeFault → Result Times Status
times_judged validity now (Err fault) expiry = Err statuses.InvalidSchedule
times_judged validity now (Ok schedule) (Err fault) = Err statuses.InvalidExpiry
times_judged validity now (Ok schedule) (Ok expiry) = timed validity now (schedule_from now schedule) expiry

-- the times of a message that comes now, or the status that refuses them
abbrev pub times_of : ℕ → ℕ → Message → Result Times Status
times_of validity now message = times_judged validity now (time_said message.schedule_delivery_time now) (time_said message.validity_period now)

-- they are to come, in their order
pub record AreToCome (now : ℕ) (times : Times) : Type 0 where
  pub expiry : now < times.expiry
  pub schedule : times.schedule < times.expiry
