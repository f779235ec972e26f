-- What came of an attempt.
use Rattle.std.specs.Prelude.{◌≡◌, ◌⊎◌, ℕ, ◌≤◌}
use Rattle.mc_model.specs.message.Decree.{Delivered, Failed, Fate, Final, Kind, Rejected, Undeliverable}

-- what came of an attempt: the message has a final state, or the attempt failed, each with its error
pub data Outcome : Type 0 where
  Concluded : Final → ℕ → Outcome
  Unanswered : ℕ → Outcome

-- The errors of the decrees on attempts (own): of an attempt that ends undeliverable or rejected, the most that the status of a
-- response gives, and of an attempt that nobody answered, that found no session, or that an older incarnation made.
abbrev pub undeliverable_error : ℕ
undeliverable_error = 101

abbrev pub rejected_error : ℕ
rejected_error = 102

abbrev pub most_status_error : ℕ
most_status_error = 900

abbrev pub no_answer_error : ℕ
no_answer_error = 997

abbrev pub no_session_error : ℕ
no_session_error = 998

abbrev pub older_incarnation_error : ℕ
older_incarnation_error = 999

-- What may come of an attempt: the deliver_sm_resp has ESME_ROK, ESME_RX_P_APPN or ESME_RX_R_APPN (SMPP 3.4, 5.1.3); or it has
-- another status, or there is none, and the attempt failed (own).
abbrev pub IsOutcome : Outcome → Type 0
IsOutcome (Concluded Delivered error) = error ≡ 0
IsOutcome (Concluded Undeliverable error) = error ≡ undeliverable_error
IsOutcome (Concluded Rejected error) = error ≡ rejected_error
IsOutcome (Concluded final error) = ⊥
IsOutcome (Unanswered error) = (error ≤ most_status_error) ⊎ (error ≡ no_answer_error)

-- the decree that an outcome asks for
abbrev pub decree_of : Outcome → Kind
decree_of (Concluded final error) = Fate final error
decree_of (Unanswered error) = Failed error
