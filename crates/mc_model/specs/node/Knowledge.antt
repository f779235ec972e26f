-- What a node knows to be chosen: it learns it from the votes of which it was told (Paxos Made Simple, 2.3).
use Rattle.std.specs.Prelude.{◌≡◌, ℕ, pred, ◌≤◌, List, ◌++◌, length, Option, Some, None}
use Rattle.mc_model.specs.message.Decree.{Decree}
use Rattle.mc_model.specs.synod.Lists.{In}
use Rattle.mc_model.specs.synod.Majority.{Majority}
use Rattle.mc_model.specs.synod.OneSlot.{Vote, vote_at}
use Rattle.mc_model.specs.synod.Packet.{Packet, Slot, Voted, slot_at, slot_of}

-- a majority told of their votes for one chain at one ballot
abbrev pub IsLearned : ℕ → List Packet → Slot → Vote → Type 0
IsLearned nodes received slot vote = Majority nodes (λ acceptor. In (Voted acceptor slot vote) received)

-- The chain of a message that a node knows: the longest that it learned, and of equally long ones the first.
pub record Knows (nodes : ℕ) (received : List Packet) (id : ℕ) (chain : List Decree) : Type 0 where
  pub ballot : ℕ
  pub learned : IsLearned nodes received (slot_of id chain) (vote_at ballot chain)
  pub longest : (place : ℕ) (vote : Vote) → IsLearned nodes received (slot_at id place) vote → place ≤ pred (length chain)
  pub first : (newer older : List Packet) (vote : Vote) → received ≡ newer ++ older →
      IsLearned nodes older (slot_of id chain) vote → (earlier : ℕ)
      × IsLearned nodes older (slot_of id chain) (vote_at earlier chain)

abbrev pub KnowsNothing : ℕ → List Packet → ℕ → Type 0
KnowsNothing nodes received id = (place : ℕ) (vote : Vote) → IsLearned nodes received (slot_at id place) vote → ⊥

abbrev pub IsKnown : ℕ → List Packet → ℕ → Option (List Decree) → Type 0
IsKnown nodes received id None = KnowsNothing nodes received id
IsKnown nodes received id (Some chain) = Knows nodes received id chain
