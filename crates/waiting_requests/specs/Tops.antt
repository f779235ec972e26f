-- The highest vote that was told (own).
use Rattle.std.specs.Prelude.{◌≡◌, ℕ, ◌==◌, true, Option, Some, None, if◌then◌else◌}
use Rattle.mc_model.specs.synod.Packet.{TopVote}
use Rattle.node_model.specs.Kept.{Held}
use Rattle.node_model.specs.Sets.{is_majority}
use Rattle.node_model.specs.Requests.{higher_top, id_of, is_higher}

-- a vote in the place of the one so far, if there is one
abbrev pub over : Option TopVote → Option TopVote → Option TopVote
over None top = top
over (Some higher) top = Some higher

-- what is told is a vote, and a higher one than that so far, if there is one
abbrev pub Passes : Option TopVote → Option TopVote → Type 0
Passes top None = ⊥
Passes None (Some told) = Unit {0}
Passes (Some top) (Some told) = is_higher told top ≡ true

-- what is followed of what was told: nothing before a majority told
abbrev pub told_by_most : ℕ → Held → Option TopVote
told_by_most nodes h = if is_majority nodes h.tellers then h.top else None

-- the higher of a vote and of those that were told to a request, if it is about this message
abbrev pub shown_by : ℕ → Held → Option TopVote → Option TopVote
shown_by id h top = if id_of h == id then higher_top top h.top else top
