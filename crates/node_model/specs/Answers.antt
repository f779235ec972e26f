-- What a request that waits is answered, by what is known (SMPP 3.4, 4.4.2, 4.8.2 and 4.9.2).
use Rattle.std.specs.Prelude.{ℕ, ◌%◌, Bool, false, ◌==◌, ◌&&◌, ◌||◌, not, List, [], ◌∷◌, length, Option, Some, None, if◌then◌else◌}
use Rattle.std.specs.Option.{is_none}
use Rattle.std.specs.Str.{bytes_eq}
use Rattle.mc_model.specs.message.Ids.{node_of}
use Rattle.mc_model.specs.message.Submission.{Submission}
use Rattle.mc_model.specs.message.Decree.{Author, Decree, Deleted, Delivered, Expired, Failed, Final, Kind, Rejected, Taken, Told, Undeliverable}
use Rattle.mc_model.specs.message.Chain.{final_in, taken_in}
use Rattle.mc_model.specs.node.Actor.{Cancel, Query, Request, Submit}
use Rattle.mc_model.specs.node.Replies.{Accepted, Answer, Kept as Keeps, NotMatched, NotOwner, Removed, Shown, Unknown}
use Rattle.mc_model.specs.node.Outputs.{Receipt, Reply}
use Rattle.node_model.specs.Kept.{Held}
use Rattle.node_model.specs.Requests.{id_of, is_settled, ticket_of}

-- the account and the source address are those of the message, and so is the destination, if one is named
abbrev pub is_owner : Submission → List ℕ → List ℕ → Bool
is_owner message account source = bytes_eq message.submitter account && bytes_eq message.source.digits source

abbrev pub is_match : Submission → List ℕ → List ℕ → List ℕ → Bool
is_match message account source destination =
    is_owner message account source && (bytes_eq destination [] || bytes_eq message.destination.digits destination)

-- a cancel_sm is answered by the state of its message, and by the newest decree; a message that waits for an attempt is to be deleted first
abbrev pub cancel_answer : Option Final → Kind → List Decree → Option Answer
cancel_answer None (Taken message) chain = None
cancel_answer None (Failed error) chain = None
cancel_answer None kind chain = Some (Keeps chain)
cancel_answer (Some Delivered) kind chain = Some (Keeps chain)
cancel_answer (Some Expired) kind chain = Some (Keeps chain)
cancel_answer (Some Deleted) kind chain = Some (Removed chain)
cancel_answer (Some Undeliverable) kind chain = Some (Keeps chain)
cancel_answer (Some Rejected) kind chain = Some (Keeps chain)

abbrev pub cancel_answer_of : List Decree → Option Answer
cancel_answer_of [] = None
cancel_answer_of (newest ∷ older) = cancel_answer (final_in (newest ∷ older)) newest.kind (newest ∷ older)

-- of the chain of a message that was taken
abbrev pub query_shown : List ℕ → List ℕ → List Decree → Option Submission → Option Answer
query_shown account source chain None = None
query_shown account source chain (Some taken) = if is_owner taken account source then Some (Shown chain) else Some NotOwner

abbrev pub cancel_decided : List ℕ → List ℕ → List ℕ → List Decree → Option Submission → Option Answer
cancel_decided account source destination chain None = None
cancel_decided account source destination chain (Some taken) =
    if is_match taken account source destination then cancel_answer_of chain else Some (NotMatched chain)

-- by the chain that is known, if any, whether all that was told is reached, and whether the request was settled
abbrev pub answer_by : Option (List Decree) → Bool → Bool → Request → Option Answer
answer_by None reached settled (Submit id message) = None
answer_by (Some chain) reached settled (Submit id message) = Some Accepted
answer_by None reached settled (Query id account source) = if reached then Some Unknown else None
answer_by (Some chain) reached settled (Query id account source) =
    if reached then query_shown account source chain (taken_in chain) else None
answer_by None reached settled (Cancel id account source destination) = if reached then Some Unknown else None
answer_by (Some chain) reached settled (Cancel id account source destination) =
    if settled then cancel_decided account source destination chain (taken_in chain) else None

abbrev pub answer_to : ℕ → Option (List Decree) → Held → Option Answer
answer_to nodes known h = answer_by known (is_settled nodes known h) h.waiting.settled h.waiting.request

-- ---- the requests of a message that are answered, and those that still wait

abbrev pub reply_of : ℕ → Option (List Decree) → ℕ → Held → Option Answer
reply_of nodes known id h = if id_of h == id then answer_to nodes known h else None

abbrev pub replied : Held → Option Answer → List Reply → List Reply
replied h None others = others
replied h (Some answer) others = record { ticket = ticket_of h; id = id_of h; answer = answer } ∷ others

abbrev pub replies_to : ℕ → Option (List Decree) → ℕ → List Held → List Reply
replies_to nodes known id [] = []
replies_to nodes known id (h ∷ others) = replied h (reply_of nodes known id h) (replies_to nodes known id others)

abbrev pub still_waits : ℕ → Option (List Decree) → ℕ → Held → Bool
still_waits nodes known id h = is_none (reply_of nodes known id h)

-- ---- receipts

-- one was asked for on every final state, or on every one but DELIVERED (SMPP 3.4, 5.2.17)
abbrev pub is_asked : Final → Submission → Bool
is_asked Delivered taken = taken.registered_delivery % 4 == 1
is_asked final taken = (taken.registered_delivery % 4 == 1) || (taken.registered_delivery % 4 == 2)

abbrev pub had_fate : Option (List Decree) → Bool
had_fate None = false
had_fate (Some chain) = not (is_none (final_in chain))

-- a decree tells one, of the node in its incarnation
abbrev pub is_told_by : ℕ → ℕ → Author → Kind → Bool
is_told_by node incarnation author Told = (author.node == node) && (author.incarnation == incarnation)
is_told_by node incarnation author kind = false

abbrev pub ends_told : ℕ → ℕ → List Decree → Bool
ends_told node incarnation [] = false
ends_told node incarnation (newest ∷ older) = is_told_by node incarnation newest.author newest.kind

-- a chain is known that was known before
abbrev pub is_known_so : Option (List Decree) → List Decree → Bool
is_known_so None chain = false
is_known_so (Some known) chain = length known == length chain

-- the node that the id names writes one when it first knows its Told of this incarnation
abbrev pub receipts_of : ℕ → ℕ → ℕ → Option (List Decree) → List Decree → List Receipt
receipts_of node incarnation id before chain =
    if (node_of id == node) && (ends_told node incarnation chain && not (is_known_so before chain)) then record { id = id; chain = chain } ∷ [] else []
