-- The promises that came to a node for a round, and what it proposes by them (Paxos Made Simple, 2.2).
use Rattle.std.specs.Prelude.{◌≡◌, ◌↔◌, ℕ, ◌≤◌, true, List, Option, Some, None}
use Rattle.mc_model.specs.synod.Lists.{In}
use Rattle.mc_model.specs.synod.Majority.{Majority}
use Rattle.mc_model.specs.synod.OneSlot.{Vote}
use Rattle.mc_model.specs.synod.Packet.{Packet, Promise, Slot}
use Rattle.node_model.specs.Message.{Round}

-- an acceptor promised at the round's ballot
abbrev pub HasPromised : List Packet → Slot → ℕ → ℕ → Type 0
HasPromised received slot ballot acceptor = (report : Option Vote) × In (Promise acceptor slot ballot report) received

-- the highest vote that was reported in promises at the ballot, if any was
pub record IsHighestVote (received : List Packet) (slot : Slot) (ballot : ℕ) (top : Vote) : Type 0 where
  pub reported : (acceptor : ℕ) × In (Promise acceptor slot ballot (Some top)) received
  pub highest : (acceptor : ℕ) (vote : Vote) → In (Promise acceptor slot ballot (Some vote)) received → vote.ballot ≤ top.ballot

abbrev pub IsHighestReport : List Packet → Slot → ℕ → Option Vote → Type 0
IsHighestReport received slot ballot None = (acceptor : ℕ) (vote : Vote) → In (Promise acceptor slot ballot (Some vote)) received → ⊥
IsHighestReport received slot ballot (Some top) = IsHighestVote received slot ballot top

-- the round has counted the promises among these packets, and no others
pub record CountsPromises (r : Round) (received : List Packet) : Type 0 where
  pub promised : (acceptor : ℕ) → (r.promised acceptor ≡ true) ↔ HasPromised received r.slot r.ballot acceptor
  pub highest : IsHighestReport received r.slot r.ballot r.highest

-- a majority promised at the round's ballot
abbrev pub IsPromisedBy : ℕ → List Packet → Slot → ℕ → Type 0
IsPromisedBy nodes received slot ballot = Majority nodes (HasPromised received slot ballot)
