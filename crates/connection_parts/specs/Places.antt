-- A worker's place on a connection, and the calls on it (own).
use Rattle.std.specs.Prelude.{ℕ, Bool, true, false, ◌==◌, ◌&&◌, not, Option, Some, None, is_some, if◌then◌else◌}
use Rattle.std.specs.Option.{option_map_or}
use Rattle.pdu_bodies.specs.declared.pdu.Pdu.{Pdu}
use Rattle.connection_parts.specs.declared.place.Job.{Job}
use Rattle.connection_parts.specs.declared.place.Step.{Step}
use Rattle.connection_parts.specs.declared.place.Step.TheVariants.{Free, Given, Spoilt, Taken, Sent, Told}

pub record Place : Type 0 where
  pub step : Step
  pub is_shut : Bool

abbrev pub free : Place
free = record { step = Free; is_shut = false }

-- ---- what a step is

abbrev pub has_no_job : Step → Bool
has_no_job Free = true
has_no_job _ = false

abbrev pub is_taken : Step → Bool
is_taken (Taken job) = true
is_taken _ = false

abbrev pub is_sent : Step → Bool
is_sent (Sent job) = true
is_sent _ = false

-- the job that waits to be taken
abbrev pub job_given : Step → Option Job
job_given (Given job) = Some job
job_given (Spoilt job) = Some job
job_given _ = None

-- the job that is not over
abbrev pub job_of : Step → Option Job
job_of Free = None
job_of (Given job) = Some job
job_of (Spoilt job) = None
job_of (Taken job) = Some job
job_of (Sent job) = Some job
job_of (Told answer) = None

abbrev pub is_numbered : ℕ → Job → Bool
is_numbered sequence job = job.pushed.sequence == sequence

-- whether a job with this sequence_number is not over
abbrev pub has : Step → ℕ → Bool
has step sequence = option_map_or (is_numbered sequence) (job_of step) false

-- the answer with which it ended
abbrev pub answer_of : Step → Option Pdu
answer_of (Told answer) = answer
answer_of _ = None

-- ---- what the calls give, and what is after them

abbrev pub is_free : Place → Bool
is_free place = has_no_job place.step && not place.is_shut

abbrev pub given : Place → Job → Place
given place job = if is_free place then record place { step = Given job } else place

abbrev pub taken_step : Step → Step
taken_step (Given job) = Taken job
taken_step (Spoilt job) = Told None
taken_step step = step

abbrev pub taken : Place → Place
taken place = record place { step = taken_step place.step }

abbrev pub can_send : Place → Bool
can_send place = is_taken place.step && not place.is_shut

abbrev pub sent_step : Step → Step
sent_step (Taken job) = Sent job
sent_step step = step

abbrev pub sent : Place → Place
sent place = if place.is_shut then place else record place { step = sent_step place.step }

abbrev pub waits : Place → Bool
waits place = is_sent place.step && not place.is_shut

-- an answer counts only if the deliver_sm was sent
abbrev pub counted : Step → Pdu → Option Pdu
counted (Sent job) pdu = Some pdu
counted _ pdu = None

-- a job that is over has this answer; one that is not taken yet is taken first, and has none
abbrev pub over : Step → Option Pdu → Step
over (Given job) answer = Spoilt job
over _ answer = Told answer

abbrev pub answered : Place → ℕ → Pdu → Place
answered place sequence pdu = if has place.step sequence then record place { step = over place.step (counted place.step pdu) } else place

abbrev pub given_up : Place → ℕ → Place
given_up place sequence = if has place.step sequence then record place { step = over place.step None } else place

-- the answer is told once
abbrev pub told_step : Step → Step
told_step (Told answer) = Told None
told_step step = step

abbrev pub told : Place → Place
told place = record place { step = told_step place.step }

abbrev pub ended : Place → Place
ended place = record place { step = Free }

abbrev pub shut_step : Step → Step
shut_step step = if is_some (job_of step) then over step None else step

abbrev pub shut : Place → Place
shut place = record { step = shut_step place.step; is_shut = true }
