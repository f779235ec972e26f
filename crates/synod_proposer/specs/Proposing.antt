-- What a proposer holds, and what it does with what comes to it (Paxos Made Simple, 2.2 and 2.5).
use Rattle.std.specs.Prelude.{◌≡◌, ℕ, max, false, ◌==◌, ◌&&◌, ◌||◌, Bool, List, get_or, option_map, Option, Some, None, if◌then◌else◌}
use Rattle.mc_types.specs.Nodes.{has}
use Rattle.mc_model.specs.message.Decree.{Decree}
use Rattle.mc_model.specs.synod.Majority.{IsMajority}
use Rattle.mc_model.specs.synod.Ballot.{incarnation_in, proposer_of}
use Rattle.mc_model.specs.synod.OneSlot.{Vote, vote_at}
use Rattle.mc_model.specs.synod.Packet.{Packet, Propose, Slot}
use Rattle.node_model.specs.Message.{Message, Round, unseen}
use Rattle.node_model.specs.Proposer.{chain_offered, completes, higher_of, offered, promised_by}

-- A round that runs: its slot and ballot, the chain that it is for, the set of those who promised, and the highest vote that was
-- reported.
pub record Running : Type 0 where
  pub slot : Slot
  pub ballot : ℕ
  pub own : List Decree
  pub promised : ℕ
  pub highest : Option Vote

-- A proposer: the node and the incarnation for which it proposes, of how many nodes, the round that runs, and the highest round
-- that it saw at each place.
pub record Proposing : Type 0 where
  pub node : ℕ
  pub incarnation : ℕ
  pub nodes : ℕ
  pub round : Option Running
  pub seen : List ℕ

-- ---- a message, as a node keeps it

abbrev pub as_round : Running → Round
as_round r = record { slot = r.slot; ballot = r.ballot; own = r.own; promised = has r.promised; highest = r.highest }

-- by what a proposer holds alone
abbrev pub message_of : Proposing → Message
message_of p = record unseen { round = option_map as_round p.round; seen = p.seen }

-- it proposes for the same node as before
pub record IsOfSame (old new : Proposing) : Type 0 where
  pub node : new.node ≡ old.node
  pub incarnation : new.incarnation ≡ old.incarnation
  pub nodes : new.nodes ≡ old.nodes

-- the highest round of a place, of its own record and of those that it saw
abbrev pub highest_round : Proposing → ℕ → ℕ → ℕ
highest_round p place own = max own (get_or p.seen place 0)

-- a ballot is of this node and incarnation
abbrev pub is_own : Proposing → ℕ → Bool
is_own p ballot = (proposer_of ballot == p.node) && (incarnation_in ballot == p.incarnation)

-- A promise is counted in the round that runs. With the one that completes a majority, and with no other, the node proposes the chain
-- that the reports allow.
abbrev pub counted_in : Message → ℕ → Option Vote → Message
counted_in m node report = record m { round = option_map (λ r. promised_by r node report) m.round }

abbrev pub proposed_in : ℕ → ℕ → Option Round → ℕ → Option Vote → Option Packet
proposed_in me nodes None node report = None
proposed_in me nodes (Some r) node report =
    if completes nodes r node then Some (Propose me r.slot (offered (promised_by r node report))) else None

-- ---- the round of the code

-- A round that starts: nobody promised, and nothing was reported.
pub record IsFresh (r : Running) (slot : Slot) (ballot : ℕ) (own : List Decree) : Type 0 where
  pub slot_is : r.slot ≡ slot
  pub ballot_is : r.ballot ≡ ballot
  pub own_is : r.own ≡ own
  pub promised : (node : ℕ) → has r.promised node ≡ false
  pub highest : r.highest ≡ None

-- a promise with a report is counted
pub record IsCounted (old : Running) (node : ℕ) (report : Option Vote) (new : Running) : Type 0 where
  pub slot : new.slot ≡ old.slot
  pub ballot : new.ballot ≡ old.ballot
  pub own : new.own ≡ old.own
  pub promised : (other : ℕ) → has new.promised other ≡ (has old.promised other || other == node)
  pub highest : new.highest ≡ higher_of old.highest report

-- it completes a majority
pub record Completes (nodes : ℕ) (old new : Running) : Type 0 where
  pub before : IsMajority nodes (has old.promised) → ⊥
  pub after : IsMajority nodes (has new.promised)

-- and is followed by the vote that is asked for
abbrev pub Offers : ℕ → Running → Running → Option Vote → Type 0
Offers nodes old new None = Completes nodes old new → ⊥
Offers nodes old new (Some vote) = Completes nodes old new × (vote ≡ vote_at new.ballot (chain_offered new.highest new.own))

-- what is reported above the highest vote so far takes its place
abbrev pub over : Option Vote → Option Vote → Option Vote
over None top = top
over (Some above) top = Some above
