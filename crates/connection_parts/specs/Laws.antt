-- What a worker is told answers a deliver_sm that went out (own).
use Rattle.std.specs.Prelude.{◌≡◌, ℕ, Bool, true, false, List, [], ◌∷◌, ◌++◌, Some}
use Rattle.std.specs.List.{list_any}
use Rattle.pdu_bodies.specs.declared.pdu.Pdu.{Pdu}
use Rattle.connection_parts.specs.declared.place.Job.{Job}
use Rattle.connection_parts.specs.declared.place.Step.TheVariants.{Taken}
use Rattle.connection_parts.specs.Places.{Place, answer_of, answered, can_send, ended, free, given, given_up, sent, shut, taken, told}

-- a call that changes a place
pub data Call : Type 0 where
  Give : Job → Call
  Take : Call
  Send : Call
  Answer : ℕ → Pdu → Call
  GiveUp : ℕ → Call
  Tell : Call
  End : Call
  Shut : Call

abbrev pub after : Place → Call → Place
after place (Give job) = given place job
after place Take = taken place
after place Send = sent place
after place (Answer sequence pdu) = answered place sequence pdu
after place (GiveUp sequence) = given_up place sequence
after place Tell = told place
after place End = ended place
after place Shut = shut place

-- a place after calls, the newest first
abbrev pub after_all : List Call → Place
after_all [] = free
after_all (call ∷ before) = after (after_all before) call

abbrev pub is_end : Call → Bool
is_end End = true
is_end _ = false

-- among these calls `send` was true for a job, which has not ended since
pub record IsOut (calls : List Call) (job : Job) : Type 0 where
  pub before : List Call
  pub since : List Call
  pub calls_are : calls ≡ since ++ Send ∷ before
  pub was_taken : (after_all before).step ≡ Taken job
  pub was_true : can_send (after_all before) ≡ true
  pub has_not_ended : list_any is_end since ≡ false

-- then this answer to it came
pub record IsAnswered (calls : List Call) (pdu : Pdu) : Type 0 where
  pub before : List Call
  pub since : List Call
  pub job : Job
  pub calls_are : calls ≡ since ++ Answer job.pushed.sequence pdu ∷ before
  pub was_out : IsOut before job
  pub has_not_ended : list_any is_end since ≡ false

-- After no calls `told` gives another PDU than such an answer: none counts that came before the deliver_sm went out.
abbrev pub OnlyWhatWasSentIsAnswered : Type 0
OnlyWhatWasSentIsAnswered = (calls : List Call) (pdu : Pdu) → answer_of (after_all calls).step ≡ Some pdu → IsAnswered calls pdu
