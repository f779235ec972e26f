-- The laws of what a script writes.
use Rattle.std.specs.Prelude.{◌≡◌, ℕ, List, [], ◌∷◌, ◌++◌, Some, Ok}
use Rattle.octet_fields.specs.Texts.{IsOctets}
use Rattle.pdu_fields.specs.Grammar.{message_parts, query_answer_parts}
use Rattle.pdu_bodies.specs.Contents.{message_contents, query_answer_contents}
use Rattle.pdu_bodies.specs.declared.pdu.Body.{Body}
use Rattle.pdu_bodies.specs.declared.pdu.Body.TheVariants.{DeliverSm, QuerySmResp}
use Rattle.pdu_bodies.specs.declared.pdu.Pdu.{Pdu}
use Rattle.pdu_codec.specs.Pdu.{read_pdu}
use Rattle.script_lines.specs.Lines.{lines_of}
use Rattle.script_text.specs.Script.{text_of}
use Rattle.octet_laws.specs.Sessions.{CancelCame, IsCancelAnswer, IsGrantedNoMore, IsToldDeleted, QueryCame, Writes, heard_on, written_by}
use Rattle.octet_laws.specs.Tellings.{HaveOneReceipt, IsPdu, TellOneFate, deliver_sm, esme_rok, query_sm_resp}
use Rattle.pdu_bodies.specs.declared.pdu.QueryAnswer.{QueryAnswer}

-- The lines of the octets that a script writes, all or the first of them, tell one fate of each message.
abbrev pub OneFateIsWritten : Type 0
OneFateIsWritten =
    (script written later : List ℕ)
    → written ++ later ≡ text_of script
    → TellOneFate (lines_of written)

-- Of the lines that a script writes, all or the first of them, one at most is a delivery receipt of each message_id.
abbrev pub OneReceiptIsWritten : Type 0
OneReceiptIsWritten =
    (script written later : List ℕ)
    → written ++ later ≡ text_of script
    → HaveOneReceipt (lines_of written)

-- octets are what a query_sm_resp or a deliver_sm with this body is
abbrev pub IsSpelledAs : List ℕ → ℕ → Body → Type 0
IsSpelledAs octets status (QuerySmResp (Some answer)) = IsPdu octets query_sm_resp status query_answer_parts (query_answer_contents answer)
IsSpelledAs octets status (DeliverSm message) = IsPdu octets deliver_sm status message_parts (message_contents message)
IsSpelledAs octets status other = Unit {0}

-- Octets that the codec reads to be a query_sm_resp or a deliver_sm are one as the law has it.
abbrev pub WhatIsReadIsSpelled : Type 0
WhatIsReadIsSpelled =
    (octets : List ℕ) (pdu : Pdu)
    → IsOctets octets
    → read_pdu octets ≡ Ok pdu
    → IsSpelledAs octets pdu.status pdu.body

-- ---- what lines write

-- What is called written is the text of a script, and what its first lines write is the beginning of that.
pub record LinesWriteOn : Type 0 where
  pub whole : (script : List ℕ) → text_of script ≡ written_by (lines_of script)
  pub begins : (before later : List (List ℕ)) → (more : List ℕ) × (written_by (before ++ later) ≡ written_by before ++ more)

-- ---- what answers answer

-- Each query_sm_resp with ESME_ROK that a script writes (SMPP 3.4, 4.8.2) answers a query_sm for its message, with its sequence_number, that came on its
-- session.
abbrev pub EachAnswerIsToAQuery : Type 0
EachAnswerIsToAQuery =
    (before : List (List ℕ)) (line : List ℕ) (node session : ℕ) (octets : List ℕ) (answer : QueryAnswer)
    → Writes before line node session octets
    → (pdu : IsPdu octets query_sm_resp esme_rok query_answer_parts (query_answer_contents answer))
    → QueryCame (heard_on node session before) pdu.sequence answer.message_id

-- The answer is to a cancel_sm that came on its session, and the message of that one is granted no more, and told DELETED.
pub record IsDeletedBy (before : List (List ℕ)) (line : List ℕ) (node session sequence : ℕ) : Type 0 where
  pub message_id : List ℕ
  pub came : CancelCame (heard_on node session before) sequence message_id
  pub granted : IsGrantedNoMore (before ++ line ∷ []) message_id
  pub told : IsToldDeleted (before ++ line ∷ []) message_id

-- Each cancel_sm_resp with ESME_ROK that a script writes deletes the message of a cancel_sm with its sequence_number that came on its session.
abbrev pub ACancelledMessageStaysDeleted : Type 0
ACancelledMessageStaysDeleted =
    (before : List (List ℕ)) (line : List ℕ) (node session sequence : ℕ) (octets : List ℕ)
    → Writes before line node session octets
    → IsCancelAnswer octets sequence
    → IsDeletedBy before line node session sequence
