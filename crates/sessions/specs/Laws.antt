-- Laws of sessions.
use Rattle.std.specs.Prelude.{◌≡◌, ℕ, ◌<◌, ◌==◌, ◌⊎◌, List, [], ◌∷◌, find, false, Option, Some, None}
use Rattle.accounts.specs.declared.account.Account.{Account}
use Rattle.pdu_tables.specs.declared.status.Status.{Status}
use Rattle.pdu_fields.specs.declared.fault.PduFault.{PduFault}
use Rattle.pdu_bodies.specs.declared.pdu.Pdu.{Pdu}
use Rattle.sessions.specs.declared.pushed.PushRefusal.TheVariants.{NotReceiving}
use Rattle.sessions.specs.declared.reaction.Reaction.TheVariants.{Nothing, Respond}
use Rattle.sessions.specs.declared.request.OpenRequest.{OpenRequest}
use Rattle.sessions.specs.declared.requested.Requested.{Requested}
use Rattle.sessions.specs.declared.response.Response.TheVariants.{Refused}
use Rattle.sessions.specs.declared.state.SessionState.TheVariants.{Gone}
use Rattle.sessions.specs.Session.{Session, IsSession}
use Rattle.sessions.specs.Steps.{Reacts, can_wait, gone, on_fault, on_pdu, on_reply, on_wait, push_refusal}

-- A request that is answered at once, or handed to the node, takes no place: what waited waits still, unless the session is gone.
abbrev pub NoPduTakesAPlace : Type 0
NoPduTakesAPlace =
    (accounts : List Account) (session : Session) (pdu : Pdu)
    → ((on_pdu accounts session pdu).next.requests ≡ session.requests) ⊎ ((on_pdu accounts session pdu).next ≡ gone session)

-- A request that is refused leaves the session as it was, and its windows with it.
abbrev pub RefusalChangesNothing : Type 0
RefusalChangesNothing =
    (accounts : List Account) (session : Session) (pdu : Pdu) (requested : Requested) (status : Status)
    → (on_pdu accounts session pdu).reaction ≡ Respond (record { sequence = pdu.sequence; response = Refused requested status })
    → (on_pdu accounts session pdu).next ≡ session

-- a session that is gone drops each PDU and each fault
abbrev pub NothingLeavesGone : Type 0
NothingLeavesGone =
    (accounts : List Account) (session : Session) (pdu : Pdu)
    → session.state ≡ Gone → Reacts (on_pdu accounts session pdu) session Nothing

abbrev pub NoFaultIsToldOfGone : Type 0
NoFaultIsToldOfGone =
    (session : Session) (fault : PduFault) (requested : Option Requested) (sequence : ℕ)
    → session.state ≡ Gone → Reacts (on_fault session fault requested sequence) session Nothing

-- it lets no request wait, pushes nothing, and has nothing to give up, since each session is as `IsSession` says
abbrev pub NothingBeginsInGone : Type 0
NothingBeginsInGone =
    (session : Session)
    → session.state ≡ Gone → IsSession session
    → (can_wait session ≡ false) × (push_refusal session ≡ Some NotReceiving) × (session.requests ≡ []) × (session.pushed ≡ []) × (session.account ≡ None)

-- The session holds a request of the ticket.
abbrev pub holds : Session → ℕ → Option OpenRequest
holds session ticket = find (λ request. request.ticket == ticket) session.requests

-- the answer to a ticket that is not held changes nothing
abbrev pub ReplyToAnotherChangesNothing : Type 0
ReplyToAnotherChangesNothing = (session : Session) (ticket : ℕ) → holds session ticket ≡ None → on_reply session ticket ≡ session

-- Of each two requests the later has the higher ticket.
abbrev pub AreAbove : ℕ → List OpenRequest → Type 0
AreAbove ticket [] = Unit {0}
AreAbove ticket (request ∷ requests) = (ticket < request.ticket) × AreAbove ticket requests

abbrev pub Rise : List OpenRequest → Type 0
Rise [] = Unit {0}
Rise (request ∷ requests) = AreAbove request.ticket requests × Rise requests

abbrev pub AreBelow : List OpenRequest → ℕ → Type 0
AreBelow [] ticket = Unit {0}
AreBelow (request ∷ requests) ticket = (request.ticket < ticket) × AreBelow requests ticket

-- Tickets rise, if the node gives each request that waits a higher one than all before: no PDU, reply or tick changes that.
abbrev pub TicketsRiseByWaiting : Type 0
TicketsRiseByWaiting =
    (session : Session) (request : OpenRequest)
    → Rise session.requests → AreBelow session.requests request.ticket → Rise (on_wait session request).requests

abbrev pub TicketsRiseOverReplies : Type 0
TicketsRiseOverReplies = (session : Session) (ticket : ℕ) → Rise session.requests → Rise (on_reply session ticket).requests

-- While they rise, no two requests have one ticket: behind an answered one there is no other of its ticket.
abbrev pub RisingTicketsAreApart : Type 0
RisingTicketsAreApart = (session : Session) (ticket : ℕ) → Rise session.requests → holds (on_reply session ticket) ticket ≡ None
