-- Requests that wait, and what is told to their questions.
use Rattle.std.specs.Prelude.{ℕ, ◌<◌, pred, Bool, true, false, ◌==◌, ◌&&◌, ◌||◌, not, nat_le, nat_lt, List, [], ◌∷◌, find, length, map, Option, Some, None, if◌then◌else◌}
use Rattle.mc_model.specs.message.Decree.{Decree}
use Rattle.mc_model.specs.synod.Packet.{TopVote}
use Rattle.mc_model.specs.node.Actor.{Cancel, Query, Request, Submit, id_in}
use Rattle.node_model.specs.Sets.{is_majority, nobody, with_node}
use Rattle.node_model.specs.Kept.{Held}

abbrev pub ticket_of : Held → ℕ
ticket_of h = h.waiting.ticket

abbrev pub id_of : Held → ℕ
id_of h = id_in h.waiting.request

abbrev pub begun : ℕ → ℕ → Request → Held
begun ticket clock request = record {
  waiting = record { ticket = ticket; since = clock; request = request; settled = false };
  tellers = nobody;
  top = None;
}

-- each of these requests has a higher ticket than this one
abbrev pub IsBelow : ℕ → List Held → Type 0
IsBelow ticket [] = Unit {0}
IsBelow ticket (first ∷ others) = (ticket < ticket_of first) × IsBelow ticket others

-- their tickets ascend
abbrev pub Ascend : List Held → Type 0
Ascend [] = Unit {0}
Ascend (first ∷ others) = IsBelow (ticket_of first) others × Ascend others

-- the request of a ticket
abbrev pub held_at : List Held → ℕ → Option Held
held_at held ticket = find (λ h. ticket_of h == ticket) held

abbrev pub with_held : List Held → Held → List Held
with_held held new = map (λ h. if ticket_of h == ticket_of new then new else h) held

-- ---- what is told

-- a vote that is told is at a higher place, or at the same one at a higher ballot
abbrev pub is_higher : TopVote → TopVote → Bool
is_higher new old = nat_lt old.place new.place || ((old.place == new.place) && nat_lt old.vote.ballot new.vote.ballot)

abbrev pub higher_top : Option TopVote → Option TopVote → Option TopVote
higher_top top None = top
higher_top None (Some new) = Some new
higher_top (Some old) (Some new) = if is_higher new old then Some new else Some old

abbrev pub told_by : Held → ℕ → Option TopVote → Held
told_by h teller told = record h { tellers = with_node h.tellers teller; top = higher_top h.top told }

-- ---- how far the chain has come

-- what was told is not beyond what is known
abbrev pub is_reached : Option (List Decree) → Option TopVote → Bool
is_reached known None = true
is_reached None (Some told) = false
is_reached (Some chain) (Some told) = nat_le told.place (pred (length chain))

-- a majority has told, and what is known reaches it
abbrev pub is_settled : ℕ → Option (List Decree) → Held → Bool
is_settled nodes known h = is_majority nodes h.tellers && is_reached known h.top

abbrev pub is_cancel : Request → Bool
is_cancel (Submit id message) = false
is_cancel (Query id account source) = false
is_cancel (Cancel id account source destination) = true

-- a cancel_sm that is to be settled, and that was not before
abbrev pub settles : ℕ → Option (List Decree) → Held → Bool
settles nodes known h = is_cancel h.waiting.request && (not h.waiting.settled && is_settled nodes known h)

abbrev pub settled_by : ℕ → Option (List Decree) → Held → Held
settled_by nodes known h =
    if settles nodes known h then record h { waiting = record h.waiting { settled = true } } else h

-- ---- questions

-- a submit_sm asks nothing
abbrev pub asks : Request → Bool
asks (Submit id message) = false
asks (Query id account source) = true
asks (Cancel id account source destination) = true

-- a request lacks Tells of a majority
abbrev pub is_untold : ℕ → Held → Bool
is_untold nodes h = asks h.waiting.request && not (is_majority nodes h.tellers)
