-- For which chains a node starts rounds, by what it keeps.
use Rattle.std.specs.Prelude.{ℕ, pred, max, Bool, true, false, ◌==◌, ◌&&◌, nat_lt, List, [], ◌∷◌, length, Option, Some, None, if◌then◌else◌}
use Rattle.std.specs.List.{list_any}
use Rattle.mc_model.specs.message.Submission.{Submission}
use Rattle.mc_model.specs.message.Decree.{Attempt, Decree, Deleted, Failed, Fate, Kind, Taken, Told}
use Rattle.mc_model.specs.message.Chain.{home_in, taken_in}
use Rattle.mc_model.specs.synod.Packet.{TopVote}
use Rattle.mc_model.specs.node.Actor.{Cancel, Query, Request, Submit}
use Rattle.mc_model.specs.node.Setup.{Setup}
use Rattle.node_model.specs.Sets.{is_majority}
use Rattle.node_model.specs.Kept.{Held, Kept, author_at}
use Rattle.node_model.specs.Answers.{had_fate, is_asked, is_match}
use Rattle.node_model.specs.Proposer.{Start}

-- ---- the message of a submit_sm is taken

abbrev pub taken_chain : Setup → Kept → ℕ → Submission → List Decree
taken_chain setup k since message = record { author = author_at setup k; moment = since; kind = Taken message } ∷ []

abbrev pub take_for : Setup → Kept → Held → Request → Option Start
take_for setup k h (Submit id message) = Some (record { place = 0; chain = taken_chain setup k h.waiting.since message })
take_for setup k h (Query id account source) = None
take_for setup k h (Cancel id account source destination) = None

-- ---- a vote beyond what is known is followed

abbrev pub is_ahead : Option (List Decree) → ℕ → Bool
is_ahead None place = true
is_ahead (Some chain) place = nat_lt (pred (length chain)) place

abbrev pub follow : Option (List Decree) → Option TopVote → Option Start
follow known None = None
follow known (Some top) =
    if is_ahead known top.place then Some (record { place = top.place; chain = top.vote.chain }) else None

-- by what was told to a request of a majority
abbrev pub follow_told : ℕ → Option (List Decree) → Held → Option Start
follow_told nodes known h = if is_majority nodes h.tellers then follow known h.top else None

-- ---- a decree of its own

-- at its clock, or at the moment of the newest decree, if that is later
abbrev pub moment_behind : Kept → Decree → ℕ
moment_behind k newest = max k.clock newest.moment

abbrev pub start_behind : Setup → Kept → Decree → List Decree → Kind → Start
start_behind setup k newest older kind = record {
  place = length (newest ∷ older);
  chain = record { author = author_at setup k; moment = moment_behind k newest; kind = kind } ∷ newest ∷ older;
}

-- ---- a message is deleted for a cancel_sm that was settled and that matches

abbrev pub is_idle : Kind → Bool
is_idle (Taken message) = true
is_idle (Attempt number) = false
is_idle (Failed error) = true
is_idle (Fate final error) = false
is_idle Told = false

abbrev pub matches : Request → ℕ → Submission → Bool
matches (Submit other message) id taken = false
matches (Query other account source) id taken = false
matches (Cancel other account source destination) id taken = (other == id) && is_match taken account source destination

abbrev pub cancels : ℕ → Submission → Held → Bool
cancels id taken h = h.waiting.settled && matches h.waiting.request id taken

abbrev pub delete_of : Setup → Kept → ℕ → List Held → Decree → List Decree → Option Submission → Option Start
delete_of setup k id held newest older None = None
delete_of setup k id held newest older (Some taken) =
    if is_idle newest.kind && list_any (cancels id taken) held
    then Some (start_behind setup k newest older (Fate Deleted 0))
    else None

-- by these requests
abbrev pub delete_for : Setup → Kept → ℕ → List Held → Option (List Decree) → Option Start
delete_for setup k id held None = None
delete_for setup k id held (Some []) = None
delete_for setup k id held (Some (newest ∷ older)) = delete_of setup k id held newest older (taken_in (newest ∷ older))

-- ---- the receipt on a fate is told, by the node that took the message

abbrev pub announced : Setup → Kept → Submission → Decree → List Decree → Kind → Option Start
announced setup k taken newest older (Taken message) = None
announced setup k taken newest older (Attempt number) = None
announced setup k taken newest older (Failed error) = None
announced setup k taken newest older (Fate final error) =
    if (setup.node == home_in (newest ∷ older)) && is_asked final taken
    then Some (start_behind setup k newest older Told)
    else None
announced setup k taken newest older Told = None

abbrev pub tell_of : Setup → Kept → Decree → List Decree → Option Submission → Option Start
tell_of setup k newest older None = None
tell_of setup k newest older (Some taken) = announced setup k taken newest older newest.kind

-- once it becomes known, if none was known before
abbrev pub tell_for : Setup → Kept → Option (List Decree) → List Decree → Option Start
tell_for setup k before [] = None
tell_for setup k before (newest ∷ older) = if had_fate before then None else tell_of setup k newest older (taken_in (newest ∷ older))
