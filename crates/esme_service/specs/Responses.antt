-- The PDU that answers a request that waited (SMPP 3.4, 4.4.2, 4.8.2 and 4.9.2).
use Rattle.std.specs.Prelude.{ℕ, List, [], Option, Some, None}
use Rattle.std.specs.Fmt.{decimal}
use Rattle.mc_model.specs.message.Chain.{Chain}
use Rattle.mc_model.specs.message.Decree.{Decree}
use Rattle.mc_model.specs.node.Replies as replies
use Rattle.smpp_time.specs.Texts.{time_text}
use Rattle.pdu_tables.specs.declared.status.Status.{Status}
use Rattle.pdu_tables.specs.declared.status.Status.TheVariants as statuses
use Rattle.pdu_tables.specs.StateCodes.{state_code}
use Rattle.pdu_tables.specs.StatusCodes.{status_code}
use Rattle.pdu_bodies.specs.declared.pdu.Pdu.{Pdu}
use Rattle.pdu_bodies.specs.declared.pdu.Body.TheVariants.{SubmitSmResp, QuerySmResp, CancelSmResp}
use Rattle.desk.specs.Desk.{shown}
use Rattle.desk.specs.declared.request.Answer.{Answer}
use Rattle.desk.specs.declared.request.Answer.TheVariants.{Accepted, Shown, NotOwner, Removed, Kept, NotMatched, Unknown}
use Rattle.sessions.specs.declared.requested.Requested.{Requested}
use Rattle.sessions.specs.Responses.{pdu_with, refusal_body}

-- the final_date: empty before a final state, and else its moment (SMPP 3.4, 4.8.2)
abbrev pub final_date_of : Option ℕ → List ℕ
final_date_of None = []
final_date_of (Some moment) = time_text moment

-- the request is refused with this command_status
abbrev pub refused_with : Requested → ℕ → ℕ → Pdu
refused_with requested sequence status = record { status = status; sequence = sequence; body = refusal_body requested }

abbrev pub refusal_pdu : Requested → ℕ → Status → Pdu
refusal_pdu requested sequence status = refused_with requested sequence (status_code status)

-- what a request with this sequence_number is told of the message of an id
abbrev pub answer_pdu : Requested → ℕ → ℕ → Answer → Pdu
answer_pdu requested sequence id Accepted = pdu_with statuses.Ok sequence (SubmitSmResp (Some (decimal id)))
answer_pdu requested sequence id (Shown state ended error) = pdu_with statuses.Ok sequence (QuerySmResp (Some (record {
  message_id = decimal id;
  final_date = final_date_of ended;
  message_state = state_code state;
  error_code = error;
})))
answer_pdu requested sequence id Removed = pdu_with statuses.Ok sequence CancelSmResp
answer_pdu requested sequence id NotOwner = refusal_pdu requested sequence statuses.QueryFailed
answer_pdu requested sequence id Kept = refusal_pdu requested sequence statuses.CancelFailed
answer_pdu requested sequence id NotMatched = refusal_pdu requested sequence statuses.CancelFailed
answer_pdu requested sequence id Unknown = refusal_pdu requested sequence statuses.InvalidMessageId

-- the chain of a message
abbrev pub chain_under : ℕ → List Decree → Chain
chain_under id decrees = record { id = id; decrees = decrees }

-- The same by what a node replies. ESME_RSYSERR tells that the request waited too long (SMPP 3.4, 5.1.3).
abbrev pub reply_pdu : Requested → ℕ → ℕ → replies.Answer → Pdu
reply_pdu requested sequence id replies.Accepted = answer_pdu requested sequence id Accepted
reply_pdu requested sequence id (replies.Shown chain) = answer_pdu requested sequence id (shown (chain_under id chain))
reply_pdu requested sequence id (replies.Removed chain) = answer_pdu requested sequence id Removed
reply_pdu requested sequence id (replies.Kept chain) = answer_pdu requested sequence id Kept
reply_pdu requested sequence id replies.NotOwner = answer_pdu requested sequence id NotOwner
reply_pdu requested sequence id (replies.NotMatched chain) = answer_pdu requested sequence id NotMatched
reply_pdu requested sequence id replies.Unknown = answer_pdu requested sequence id Unknown
reply_pdu requested sequence id replies.TooLate = refusal_pdu requested sequence statuses.SystemError
