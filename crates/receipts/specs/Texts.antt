-- The text of a delivery receipt (SMPP 3.4, appendix B, which leaves its layout to the vendor; the last label is own).
use Rattle.std.specs.Prelude.{ℕ, ◌+◌, ◌/◌, ◌%◌, Bool, ◌==◌, ◌||◌, List, [], ◌∷◌, ◌++◌, take, codes, if◌then◌else◌}
use Rattle.std.specs.Fmt.{decimal}
use Rattle.mc_model.specs.message.Decree.{Delivered, Deleted, Expired, Final, Rejected, Undeliverable}
use Rattle.mc_model.specs.message.Submission.{Submission}
use Rattle.smpp_time.specs.Texts.{time_text}

-- What a receipt tells: the message's id, what was taken and when, its final state with its error, and since when it has it.
pub record Report : Type 0 where
  pub id : ℕ
  pub taken : Submission
  pub began : ℕ
  pub final : Final
  pub error : ℕ
  pub ended : ℕ

-- the name of a final state
abbrev pub stat : Final → List ℕ
stat Delivered = codes "DELIVRD"
stat Expired = codes "EXPIRED"
stat Deleted = codes "DELETED"
stat Undeliverable = codes "UNDELIV"
stat Rejected = codes "REJECTD"

-- how many of the one message were delivered
abbrev pub delivered_count : Final → List ℕ
delivered_count Delivered = codes "001"
delivered_count Expired = codes "000"
delivered_count Deleted = codes "000"
delivered_count Undeliverable = codes "000"
delivered_count Rejected = codes "000"

-- YYMMDDhhmm
abbrev pub date : ℕ → List ℕ
date moment = take 10 (time_text moment)

abbrev pub three_digits : ℕ → List ℕ
three_digits number = (48 + number / 100) ∷ (48 + number / 10 % 10) ∷ (48 + number % 10) ∷ []

-- the data_coding is the default alphabet, ASCII or Latin 1 (5.2.19)
abbrev pub is_readable : ℕ → Bool
is_readable data_coding = (data_coding == 0) || (data_coding == 1) || (data_coding == 3)

-- the first 20 characters of the message, if they can be read
abbrev pub first_text : Submission → List ℕ
first_text taken = if is_readable taken.data_coding then take 20 taken.text else []

-- which message it was, since when and until when, what became of it, and what it said
abbrev pub message_part : Report → List ℕ
message_part report = codes "id:" ++ decimal report.id ++ codes " sub:001 dlvrd:" ++ delivered_count report.final

abbrev pub dates_part : Report → List ℕ
dates_part report = codes " submit date:" ++ date report.began ++ codes " done date:" ++ date report.ended

abbrev pub fate_part : Report → List ℕ
fate_part report = codes " stat:" ++ stat report.final ++ codes " err:" ++ three_digits report.error

abbrev pub text_part : Report → List ℕ
text_part report = codes " text:" ++ first_text report.taken

unfoldable pub receipt_text : Report → List ℕ
receipt_text report = message_part report ++ dates_part report ++ fate_part report ++ text_part report
