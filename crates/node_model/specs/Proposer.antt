-- The rounds of a message (Paxos Made Simple, 2.2 and 2.5).
use Rattle.std.specs.Prelude.{ℕ, suc, pred, max, Bool, false, ◌==◌, ◌&&◌, not, is_some, nat_le, nat_lt, List, [], ◌∷◌, length, get_or, set}
use Rattle.std.specs.Prelude.{Option, Some, None, if◌then◌else◌}
use Rattle.mc_model.specs.message.Decree.{Decree}
use Rattle.mc_model.specs.synod.Ballot.{ballot_of, incarnation_in, proposer_of, round_in}
use Rattle.mc_model.specs.synod.OneSlot.{Vote, vote_at}
use Rattle.mc_model.specs.synod.Packet.{Packet, Prepare, Slot, same_slot, slot_at}
use Rattle.mc_model.specs.synod.Acceptor.{Records}
use Rattle.mc_model.specs.node.Setup.{Setup}
use Rattle.node_model.specs.Sets.{is_majority, nobody, with_node}
use Rattle.node_model.specs.Message.{Message, Round}
use Rattle.node_model.specs.Kept.{Kept, message_at, with_message}

-- a chain for which a round is to be started, at a place
pub record Start : Type 0 where
  pub place : ℕ
  pub chain : List Decree

-- the greatest number of a round
abbrev pub last_round : ℕ
last_round = 4294967295

-- the highest round of a slot: of its own record, of its own rounds, and of refusals of its ballots
abbrev pub highest_round : Records → Message → Slot → ℕ
highest_round records m slot = max (round_in (records slot).promised) (get_or m.seen slot.place 0)

abbrev pub started_at : Message → Slot → ℕ → ℕ → List Decree → Message
started_at m slot number ballot chain = record m {
  round = Some (record { slot = slot; ballot = ballot; own = chain; promised = nobody; highest = None });
  seen = set m.seen slot.place number;
}

-- what is kept, and the Prepare that is sent
pub record Prepared : Type 0 where
  pub kept : Kept
  pub packets : List Packet

-- A round starts for a chain, if none of the message runs and there is a round left.
abbrev pub prepared_at : Setup → Kept → Slot → ℕ → List Decree → Prepared
prepared_at setup k slot number chain = record {
  kept = with_message k slot.id (started_at (message_at k slot.id) slot number (ballot_of number k.incarnation setup.node) chain);
  packets = Prepare setup.node slot (ballot_of number k.incarnation setup.node) ∷ [];
}

abbrev pub is_free : Kept → Slot → Bool
is_free k slot =
    not (is_some (message_at k slot.id).round) && nat_lt (highest_round k.records (message_at k slot.id) slot) last_round

abbrev pub started : Setup → Kept → ℕ → Option Start → Prepared
started setup k id None = record { kept = k; packets = [] }
started setup k id (Some start) =
    if is_free k (slot_at id start.place)
    then prepared_at setup k (slot_at id start.place) (suc (highest_round k.records (message_at k id) (slot_at id start.place))) start.chain
    else record { kept = k; packets = [] }

-- ---- promises

-- a round of this slot runs at this ballot
abbrev pub runs_at : Option Round → Slot → ℕ → Bool
runs_at None slot ballot = false
runs_at (Some r) slot ballot = same_slot r.slot slot && r.ballot == ballot

-- of two votes that were reported the higher, and of two at one ballot the first
abbrev pub higher_of : Option Vote → Option Vote → Option Vote
higher_of top None = top
higher_of None (Some vote) = Some vote
higher_of (Some top) (Some vote) = if nat_lt top.ballot vote.ballot then Some vote else Some top

abbrev pub promised_by : Round → ℕ → Option Vote → Round
promised_by r node report = record r { promised = with_node r.promised node; highest = higher_of r.highest report }

-- this promise completes a majority
abbrev pub completes : ℕ → Round → ℕ → Bool
completes nodes r node = not (is_majority nodes r.promised) && is_majority nodes (with_node r.promised node)

-- the chain of the highest vote that was reported, else the round's own
abbrev pub chain_offered : Option Vote → List Decree → List Decree
chain_offered None own = own
chain_offered (Some top) own = top.chain

abbrev pub offered : Round → Vote
offered r = vote_at r.ballot (chain_offered r.highest r.own)

-- ---- refusals, and the end of a round

abbrev pub is_own_ballot : Setup → Kept → ℕ → Bool
is_own_ballot setup k ballot = (proposer_of ballot == setup.node) && (incarnation_in ballot == k.incarnation)

-- a refusal tells a round, and ends its own if it is for a greater ballot
abbrev pub refused : Message → Slot → ℕ → ℕ → Message
refused m slot ballot promised = record m {
  round = (if runs_at m.round slot ballot && nat_lt ballot promised then None else m.round);
  seen = set m.seen slot.place (max (get_or m.seen slot.place 0) (round_in promised));
}

-- a round ends once what is known reaches its place
abbrev pub unless_reached : List Decree → Option Round → Option Round
unless_reached known None = None
unless_reached known (Some r) = if nat_le r.slot.place (pred (length known)) then None else Some r
