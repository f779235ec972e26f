-- What came on a session and what is answered there, by the lines of a script and what they write.
use Rattle.std.specs.Prelude.{◌≡◌, ℕ, ◌<◌, ◌==◌, ◌&&◌, not, List, [], ◌∷◌, ◌++◌, codes, drop, length, Option, Some, None, if◌then◌else◌}
use Rattle.std.specs.Fmt.{decimal}
use Rattle.std.specs.List.{list_any}
use Rattle.std.specs.Str.{bytes_eq}
use Rattle.mc_model.specs.message.Ids.{IsNode}
use Rattle.mc_model.specs.synod.Lists.{In}
use Rattle.pdu_fields.specs.Grammar.{cancel_parts, query_answer_parts, query_parts}
use Rattle.pdu_bodies.specs.Contents.{cancel_contents, query_answer_contents, query_contents}
use Rattle.pdu_bodies.specs.declared.pdu.Cancel.{Cancel}
use Rattle.pdu_bodies.specs.declared.pdu.Query.{Query}
use Rattle.pdu_bodies.specs.declared.pdu.QueryAnswer.{QueryAnswer}
use Rattle.pdu_codec.specs.Pdu.{framed}
use Rattle.pdu_frames.specs.Frames.{cut}
use Rattle.script_lines.specs.Lines.{lines_of}
use Rattle.script_lines.specs.Said.{Grant, IsSession, Octets, Said, said_of}
use Rattle.script_text.specs.Settings.{script_settings}
use Rattle.script_text.specs.Prints.{world_text}
use Rattle.script_text.specs.Script.{prints_from}
use Rattle.octet_laws.specs.Tellings.{IsPdu, IsPduLine, esme_rok, query_sm_resp}

-- ---- what lines write

-- the text of a script of these lines: `text_of script` is `written_by (lines_of script)`
abbrev pub written_by : List (List ℕ) → List ℕ
written_by lines = world_text (prints_from script_settings None lines)

-- the lines that one more line writes
abbrev pub written_then : List (List ℕ) → List ℕ → List (List ℕ)
written_then before line = lines_of (drop (length (written_by before)) (written_by (before ++ line ∷ [])))

-- ---- what came on a session

-- a session of a node is gone (own)
abbrev pub gone_line : ℕ → ℕ → List ℕ
gone_line node session = codes "gone " ++ decimal node ++ codes " " ++ decimal session

-- the octets that a line brings on a session of a node; a node that is down refuses them with 4 (own)
abbrev pub brought : ℕ → ℕ → Option Said → List (List ℕ) → List ℕ
brought node session (Some (Octets other number octets)) written =
    if other == node && (number == session && not (list_any (bytes_eq (codes "refused 4")) written)) then octets else []
brought node session said written = []

-- what came on it since it began, after a line that writes these lines: once it is gone, what comes next begins another
abbrev pub heard_then : ℕ → ℕ → Option Said → List (List ℕ) → List ℕ → List ℕ
heard_then node session said written stream =
    if list_any (bytes_eq (gone_line node session)) written then [] else stream ++ brought node session said written

-- the same after lines that stand behind these
unfoldable pub heard_behind : ℕ → ℕ → List (List ℕ) → List ℕ → List (List ℕ) → List ℕ
heard_behind node session before stream [] = stream
heard_behind node session before stream (line ∷ lines) =
    heard_behind node session (before ++ line ∷ []) (heard_then node session (said_of line) (written_then before line) stream) lines

-- the octets that came on a session of a node since it began, by these lines
abbrev pub heard_on : ℕ → ℕ → List (List ℕ) → List ℕ
heard_on node session lines = heard_behind node session [] [] lines

-- ---- requests and their answers

-- the command_ids of a query_sm, a cancel_sm and a cancel_sm_resp (SMPP 3.4, 5.1.2.1)
abbrev pub query_sm : ℕ
query_sm = 0x00000003

abbrev pub cancel_sm : ℕ
cancel_sm = 0x00000008

abbrev pub cancel_sm_resp : ℕ
cancel_sm_resp = 0x80000008

-- A cancel_sm with this sequence_number and message_id came in the octets of a stream (SMPP 3.4, 4.9.1).
pub record CancelCame (stream : List ℕ) (sequence : ℕ) (message_id : List ℕ) : Type 0 where
  pub frame : List ℕ
  pub among : In frame (cut stream).frames
  pub status : ℕ
  pub cancel : Cancel
  pub pdu : IsPdu frame cancel_sm status cancel_parts (cancel_contents cancel)
  pub sequence_is : pdu.sequence ≡ sequence
  pub message : cancel.message_id ≡ message_id

-- And so did a query_sm (SMPP 3.4, 4.8.1).
pub record QueryCame (stream : List ℕ) (sequence : ℕ) (message_id : List ℕ) : Type 0 where
  pub frame : List ℕ
  pub among : In frame (cut stream).frames
  pub status : ℕ
  pub query : Query
  pub pdu : IsPdu frame query_sm status query_parts (query_contents query)
  pub sequence_is : pdu.sequence ≡ sequence
  pub message : query.message_id ≡ message_id

-- Behind these lines a line writes octets on a session of a node.
pub record Writes (before : List (List ℕ)) (line : List ℕ) (node session : ℕ) (octets : List ℕ) : Type 0 where
  pub is_node : IsNode node
  pub is_session : IsSession session
  pub written : List ℕ
  pub among : In written (written_then before line)
  pub is_pdu : IsPduLine written octets
  pub node_is : is_pdu.node ≡ node
  pub session_is : is_pdu.session ≡ session

-- They are a cancel_sm_resp with ESME_ROK and this sequence_number, which has no body (SMPP 3.4, 4.9.2).
abbrev pub IsCancelAnswer : List ℕ → ℕ → Type 0
IsCancelAnswer octets sequence = octets ≡ framed cancel_sm_resp esme_rok sequence []

-- ---- what comes later

-- A later line that asks a node for an attempt of the message writes no PDU, so no deliver_sm (SMPP 3.4, 4.6.1).
abbrev pub IsGrantedNoMore : List (List ℕ) → List ℕ → Type 0
IsGrantedNoMore lines message_id =
    (later : List (List ℕ)) (line : List ℕ) (node id : ℕ) (written octets : List ℕ)
    → said_of line ≡ Some (Grant node id)
    → decimal id ≡ message_id
    → In written (written_then (lines ++ later) line)
    → IsPduLine written octets
    → ⊥

-- octets are a request with this sequence_number (SMPP 3.4, 5.1.4): the command_id of a response has bit 31 (5.1.2)
pub record IsRequest (octets : List ℕ) (sequence : ℕ) : Type 0 where
  pub command : ℕ
  pub request : command < 0x80000000
  pub status : ℕ
  pub body : List ℕ
  pub octets_are : octets ≡ framed command status sequence body

-- A later query_sm_resp with ESME_ROK for the message (SMPP 3.4, 4.8.2) tells DELETED (5.2.28), if its query_sm came later: at some time after these
-- lines no request with its sequence_number had come on its session since that began.
abbrev pub IsToldDeleted : List (List ℕ) → List ℕ → Type 0
IsToldDeleted lines message_id =
    (meanwhile later : List (List ℕ)) (line : List ℕ) (node session : ℕ) (octets : List ℕ) (answer : QueryAnswer)
    → Writes ((lines ++ meanwhile) ++ later) line node session octets
    → (pdu : IsPdu octets query_sm_resp esme_rok query_answer_parts (query_answer_contents answer))
    → answer.message_id ≡ message_id
    → ((frame : List ℕ) → In frame (cut (heard_on node session (lines ++ meanwhile))).frames → IsRequest frame pdu.sequence → ⊥)
    → answer.message_state ≡ 4
