-- What a worker is told answers a deliver_sm that went out.
use Rattle.std.proofs.Common.{◌≡◌, ℕ, ◌⊎◌, Bool, true, false, cond, List, [], ◌∷◌, Option, Some, None, is_some, refl, ap, inl, inr, arith}
use Rattle.std.proofs.lemmas.Bool.Decides.{nat_tests}
use Rattle.pdu_bodies.specs.declared.pdu.Pdu.{Pdu}
use Rattle.connection_parts.specs.declared.place.Job.{Job}
use Rattle.connection_parts.specs.declared.place.Step.{Step}
use Rattle.connection_parts.specs.declared.place.Step.TheVariants.{Given, Spoilt, Taken, Sent, Told}
use Rattle.connection_parts.specs.Places.{Place, answer_of, can_send, counted, has, is_free, job_of, over, taken_step, told_step}
use Rattle.connection_parts.specs.Laws.{Call, Give, Take, Send, Answer, GiveUp, Tell, End, Shut, IsAnswered, IsOut, after, after_all, is_end}

-- ---- what is so after a call was so before, if the call does not make it so

of_choice : {A : Type 0} (P : A → Type 0) (b : Bool) (other x : A) → P (cond b other x) → (P other → P x) → P x
of_choice P true other x is never = never is
of_choice P false other x is never = is

of_take : (P : Step → Type 0) (step : Step) → P (taken_step step) → ((job : Job) → P (Taken job) → P step) → (P (Told None) → P step) → P step
of_take P (Given job) is never never_over = never job is
of_take P (Spoilt job) is never never_over = never_over is
of_take P step is never never_over = is

of_tell : (P : Step → Type 0) (step : Step) → P (told_step step) → (P (Told None) → P step) → P step
of_tell P (Told answer) is never = never is
of_tell P step is never = is

never_sent : (step : Step) (answer : Option Pdu) (job : Job) → over step answer ≡ Sent job → ⊥
never_sent (Given other) answer job is = cc
never_sent step answer job is = cc

never_told : (step : Step) (pdu : Pdu) → answer_of (over step None) ≡ Some pdu → ⊥
never_told (Given other) pdu is = cc
never_told step pdu is = cc

-- ---- how a job comes to be sent

abbrev IsSentBy : Place → Call → Job → Type 0
IsSentBy place call job =
    ((place.step ≡ Sent job) × (is_end call ≡ false)) ⊎ ((call ≡ Send) × (place.step ≡ Taken job) × (can_send place ≡ true))

by_send : (step : Step) (is_shut : Bool) (job : Job) → (after (record { step = step; is_shut = is_shut }) Send).step ≡ Sent job
    → IsSentBy (record { step = step; is_shut = is_shut }) Send job
by_send step true job is = inl (is, refl)
by_send (Taken other) false job is = inr (refl, cc, refl)
by_send step false job is = inl (is, refl)

sent_by : (place : Place) (call : Call) (job : Job) → (after place call).step ≡ Sent job → IsSentBy place call job
sent_by place (Give given) job is = inl (of_choice (λ (p : Place). p.step ≡ Sent job) (is_free place) _ place is (λ sent. cc), refl)
sent_by place Take job is = inl (of_take (λ step. step ≡ Sent job) place.step is (λ other sent. cc) (λ sent. cc), refl)
sent_by place Send job is = by_send place.step place.is_shut job is
sent_by place (Answer sequence pdu) job is =
    inl (of_choice (λ (p : Place). p.step ≡ Sent job) (has place.step sequence) _ place is (λ sent. absurd (never_sent place.step _ job sent)), refl)
sent_by place (GiveUp sequence) job is =
    inl (of_choice (λ (p : Place). p.step ≡ Sent job) (has place.step sequence) _ place is (λ sent. absurd (never_sent place.step None job sent)), refl)
sent_by place Tell job is = inl (of_tell (λ step. step ≡ Sent job) place.step is (λ sent. cc), refl)
sent_by place End job is = cc
sent_by place Shut job is =
    inl (of_choice (λ step. step ≡ Sent job) (is_some (job_of place.step)) _ place.step is (λ sent. absurd (never_sent place.step None job sent)), refl)

out_since : (call : Call) (before : List Call) (job : Job) → IsOut before job → is_end call ≡ false → IsOut (call ∷ before) job
out_since call before job out goes_on = record {
  before = out.before;
  since = call ∷ out.since;
  calls_are = ap (λ calls. call ∷ calls) out.calls_are;
  was_taken = out.was_taken;
  was_true = out.was_true;
  has_not_ended = rw (goes_on, out.has_not_ended);
}

out_here : (call : Call) (before : List Call) (job : Job) → call ≡ Send → (after_all before).step ≡ Taken job → can_send (after_all before) ≡ true
    → IsOut (call ∷ before) job
out_here call before job is_send taken may_go = record {
  before = before;
  since = [];
  calls_are = ap (λ last. last ∷ before) is_send;
  was_taken = taken;
  was_true = may_go;
  has_not_ended = refl;
}

out : (calls : List Call) (job : Job) → (after_all calls).step ≡ Sent job → IsOut calls job
out [] job is = absurd (cc)
out (call ∷ before) job is = elim (sent_by (after_all before) call job is) [
  | inl was ↦ out_since call before job (out before job was.0) was.1
  | inr sent ↦ out_here call before job sent.0 sent.1 sent.2
]

-- ---- how its answer comes to be told

abbrev IsToldBy : Place → Call → Pdu → Type 0
IsToldBy place call pdu =
    ((answer_of place.step ≡ Some pdu) × (is_end call ≡ false)) ⊎ ((job : Job) × (call ≡ Answer job.pushed.sequence pdu) × (place.step ≡ Sent job))

before_send : (step : Step) (is_shut : Bool) (pdu : Pdu) → answer_of (after (record { step = step; is_shut = is_shut }) Send).step ≡ Some pdu
    → answer_of step ≡ Some pdu
before_send step true pdu is = is
before_send (Taken other) false pdu is = cc
before_send step false pdu is = is

by_answer : (step : Step) (is_shut : Bool) (sequence : ℕ) (other pdu : Pdu) (b : Bool) → has step sequence ≡ b
    → answer_of (cond {A = Place} b (record { step = over step (counted step other); is_shut = is_shut }) (record { step = step; is_shut = is_shut })).step
    ≡ Some pdu
    → IsToldBy (record { step = step; is_shut = is_shut }) (Answer sequence other) pdu
by_answer step is_shut sequence other pdu false is_its is = inl (is, refl)
by_answer (Given job) is_shut sequence other pdu true is_its is = cc
by_answer (Sent job) is_shut sequence other pdu true is_its is =
    let same : job.pushed.sequence ≡ sequence = grind (arith, nat_tests) in
    inr (job, cc, refl)
by_answer step is_shut sequence other pdu true is_its is = cc

told_by : (place : Place) (call : Call) (pdu : Pdu) → answer_of (after place call).step ≡ Some pdu → IsToldBy place call pdu
told_by place (Give given) pdu is = inl (of_choice (λ (p : Place). answer_of p.step ≡ Some pdu) (is_free place) _ place is (λ told. cc), refl)
told_by place Take pdu is = inl (of_take (λ step. answer_of step ≡ Some pdu) place.step is (λ other told. cc) (λ told. cc), refl)
told_by place Send pdu is = inl (before_send place.step place.is_shut pdu is, refl)
told_by place (Answer sequence other) pdu is = by_answer place.step place.is_shut sequence other pdu (has place.step sequence) refl is
told_by place (GiveUp sequence) pdu is =
    inl (of_choice (λ (p : Place). answer_of p.step ≡ Some pdu) (has place.step sequence) _ place is (λ told. absurd (never_told place.step pdu told)), refl)
told_by place Tell pdu is = inl (of_tell (λ step. answer_of step ≡ Some pdu) place.step is (λ told. cc), refl)
told_by place End pdu is = cc
told_by place Shut pdu is =
    inl (of_choice (λ step. answer_of step ≡ Some pdu) (is_some (job_of place.step)) _ place.step is (λ told. absurd (never_told place.step pdu told)), refl)

answered_since : (call : Call) (before : List Call) (pdu : Pdu) → IsAnswered before pdu → is_end call ≡ false → IsAnswered (call ∷ before) pdu
answered_since call before pdu answered goes_on = record {
  before = answered.before;
  since = call ∷ answered.since;
  job = answered.job;
  calls_are = ap (λ calls. call ∷ calls) answered.calls_are;
  was_out = answered.was_out;
  has_not_ended = rw (goes_on, answered.has_not_ended);
}

answered_here : (call : Call) (before : List Call) (pdu : Pdu) (job : Job) → call ≡ Answer job.pushed.sequence pdu → IsOut before job
    → IsAnswered (call ∷ before) pdu
answered_here call before pdu job is_answer was_out = record {
  before = before;
  since = [];
  job = job;
  calls_are = ap (λ last. last ∷ before) is_answer;
  was_out = was_out;
  has_not_ended = refl;
}

pub answered : (calls : List Call) (pdu : Pdu) → answer_of (after_all calls).step ≡ Some pdu → IsAnswered calls pdu
answered [] pdu is = absurd (cc)
answered (call ∷ before) pdu is = elim (told_by (after_all before) call pdu is) [
  | inl was ↦ answered_since call before pdu (answered before pdu was.0) was.1
  | inr told ↦ answered_here call before pdu told.0 told.1 (out before told.0 told.2)
]
