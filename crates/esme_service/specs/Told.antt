-- The node's replies, as they go out.
use Rattle.std.specs.Prelude.{Option, Some, None}
use Rattle.waiting_requests.specs.declared.answer.Reply.{Reply}
use Rattle.esme_service.specs.Replies.{Owned}
use Rattle.esme_service.specs.declared.owner.Owner.{Owner}
use Rattle.esme_service.specs.declared.sending.Sending.{Sending}
use Rattle.esme_service.specs.declared.sending.Sending.TheVariants as sendings

abbrev pub owned_by : Owner → Owned
owned_by owner = record { number = owner.number; request = owner.request }

-- a reply to the request that a session holds, if one does
abbrev pub reply_to : Reply → Option Owned → Option Sending
reply_to reply None = None
reply_to reply (Some owned) = Some (sendings.Reply (record { number = owned.number; request = owned.request }) reply)
