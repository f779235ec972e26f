-- What the octets of a line tell of the fate of a message.
use Rattle.std.specs.Prelude.{◌≡◌, ◌≢◌, ◌⊎◌, ℕ, List, [], ◌∷◌, ◌++◌, All, bit_and, codes, length, Ok}
use Rattle.std.specs.Fmt.{decimal}
use Rattle.hex.specs.Hex.{decode_of}
use Rattle.mc_model.specs.synod.Lists.{In}
use Rattle.pdu_fields.specs.Grammar.{AreWithin, Contents, Parts, message_parts, query_answer_parts, spellings}
use Rattle.pdu_bodies.specs.Contents.{message_contents, query_answer_contents}
use Rattle.pdu_bodies.specs.declared.pdu.Message.{Message}
use Rattle.pdu_bodies.specs.declared.pdu.QueryAnswer.{QueryAnswer}
use Rattle.pdu_codec.specs.Pdu.{framed}

-- the line of octets that went out at a node, on a session, in hex digits (own)
pub record IsPduLine (line octets : List ℕ) : Type 0 where
  pub node : ℕ
  pub session : ℕ
  pub digits : List ℕ
  pub line_is : line ≡ codes "pdu " ++ decimal node ++ codes " " ++ decimal session ++ codes " " ++ digits
  pub hex : decode_of digits ≡ Ok octets

-- ---- a PDU

-- Octets are a PDU of a command_id, with a command_status, in whose fields this stands, within their limits (SMPP 3.4, 3.2 and 5.1).
pub record IsPdu (octets : List ℕ) (command status : ℕ) (parts : Parts) (contents : Contents parts) : Type 0 where
  pub sequence : ℕ
  pub octets_are : octets ≡ framed command status sequence (spellings parts contents)
  pub within : AreWithin parts contents

-- the command_ids of a query_sm_resp and a deliver_sm (SMPP 3.4, 5.1.2.1), and ESME_ROK (5.1.3)
abbrev pub query_sm_resp : ℕ
query_sm_resp = 0x80000003

abbrev pub deliver_sm : ℕ
deliver_sm = 0x00000005

abbrev pub esme_rok : ℕ
esme_rok = 0

-- ---- the answer to a query_sm

-- the message_state of a message that has no final state (SMPP 3.4, 5.2.28)
abbrev pub enroute : ℕ
enroute = 1

-- A query_sm_resp with ESME_ROK tells a final state (SMPP 3.4, 4.8.2).
pub record AnswersState (octets message_id : List ℕ) (state : ℕ) : Type 0 where
  pub answer : QueryAnswer
  pub pdu : IsPdu octets query_sm_resp esme_rok query_answer_parts (query_answer_contents answer)
  pub message : answer.message_id ≡ message_id
  pub state_is : answer.message_state ≡ state
  pub final : state ≢ enroute

-- ---- a delivery receipt

-- the final states (SMPP 3.4, 5.2.28), each with its name in a receipt (appendix B)
abbrev pub final_states : List (ℕ × List ℕ)
final_states = (2, codes "DELIVRD") ∷ (3, codes "EXPIRED") ∷ (4, codes "DELETED") ∷ (5, codes "UNDELIV") ∷ (8, codes "REJECTD") ∷ []

-- What the text of a receipt begins with (SMPP 3.4, appendix B): the message_id is one word, the numbers have three digits, and the dates ten.
pub record IsReceiptText (text message_id : List ℕ) (state : ℕ) : Type 0 where
  pub submitted : List ℕ
  pub delivered : List ℕ
  pub submit_date : List ℕ
  pub done_date : List ℕ
  pub name : List ℕ
  pub rest : List ℕ
  pub one_word : All (λ octet. octet ≢ 32) message_id
  pub submitted_digits : length submitted ≡ 3
  pub delivered_digits : length delivered ≡ 3
  pub submit_digits : length submit_date ≡ 10
  pub done_digits : length done_date ≡ 10
  pub named : In (state, name) final_states
  pub text_is : text ≡
      codes "id:" ++ message_id ++ codes " sub:" ++ submitted ++ codes " dlvrd:" ++ delivered ++ codes " submit date:" ++ submit_date
      ++ codes " done date:" ++ done_date ++ codes " stat:" ++ name ++ rest

-- bits 5 to 2 of esm_class (SMPP 3.4, 5.2.12)
abbrev pub message_type : ℕ → ℕ
message_type esm_class = bit_and esm_class 0x3c

-- A deliver_sm that is a delivery receipt (SMPP 3.4, 4.6.1 and 5.2.12) tells a final state.
pub record ReportsState (octets message_id : List ℕ) (state : ℕ) : Type 0 where
  pub status : ℕ
  pub message : Message
  pub pdu : IsPdu octets deliver_sm status message_parts (message_contents message)
  pub receipt : message_type message.esm_class ≡ 4
  pub text : IsReceiptText message.short_message message_id state

-- ---- a line

-- The line is of octets that tell this final state of the message of a message_id.
pub record TellsFate (line message_id : List ℕ) (state : ℕ) : Type 0 where
  pub octets : List ℕ
  pub line_is : IsPduLine line octets
  pub tells : AnswersState octets message_id state ⊎ ReportsState octets message_id state

-- The line is of octets that are a delivery receipt of the message of a message_id.
pub record IsReceiptLine (line message_id : List ℕ) : Type 0 where
  pub octets : List ℕ
  pub line_is : IsPduLine line octets
  pub state : ℕ
  pub reports : ReportsState octets message_id state

-- No line of these behind a delivery receipt is one of the same message.
abbrev pub HaveOneReceipt : List (List ℕ) → Type 0
HaveOneReceipt lines =
    (before : List (List ℕ)) (one : List ℕ) (later : List (List ℕ)) (other message_id : List ℕ)
    → lines ≡ before ++ one ∷ later
    → In other later
    → IsReceiptLine one message_id
    → IsReceiptLine other message_id
    → ⊥

-- All lines of these that tell a final state of one message tell the same.
abbrev pub TellOneFate : List (List ℕ) → Type 0
TellOneFate lines =
    (one other message_id : List ℕ) (first second : ℕ)
    → In one lines
    → In other lines
    → TellsFate one message_id first
    → TellsFate other message_id second
    → first ≡ second
