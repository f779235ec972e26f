-- Which session holds a ticket.
use Rattle.std.proofs.Common.{◌≡◌, ℕ, ◌==◌, List, ◌∷◌, find, Option, Some, sym, ap, ◌∙◌}
use Rattle.sessions.specs.Session.{Session}
use Rattle.sessions.specs.declared.request.OpenRequest.{OpenRequest}
use Rattle.esme_service.specs.Replies.{Owned, found_at, owner_of}

-- the first session that is left holds it
pub first_owner : (left all others : List (ℕ × Session)) (number : ℕ) (session : Session) (requests : List OpenRequest) (ticket : ℕ) (request : OpenRequest)
    → left ≡ (number, session) ∷ others → owner_of left ticket ≡ owner_of all ticket → requests ≡ session.requests
    → Some request ≡ find (λ request. request.ticket == ticket) requests
    → (let owned : Option Owned = Some (record { number = number; request = request }) in owned) ≡ owner_of all ticket
first_owner left all others number session requests ticket request is so same found =
    ap (λ r. found_at number r (owner_of others ticket)) (found ∙ ap (λ rs. find (λ request. request.ticket == ticket) rs) same)
    ∙ ap (λ entries. owner_of entries ticket) (sym is)
    ∙ so
