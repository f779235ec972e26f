-- What a node keeps of one message in an incarnation, besides the stable records of its acceptor.
use Rattle.std.specs.Prelude.{ℕ, Bool, false, List, [], ◌∷◌, Option, None}
use Rattle.mc_model.specs.message.Decree.{Decree}
use Rattle.mc_model.specs.synod.OneSlot.{Vote}
use Rattle.mc_model.specs.synod.Packet.{Slot}
use Rattle.mc_model.specs.node.Outcome.{Outcome}
use Rattle.node_model.specs.Sets.{nobody}

-- A round that runs: its slot and ballot, the chain that it is for, who promised, and the highest vote that they reported.
pub record Round : Type 0 where
  pub slot : Slot
  pub ballot : ℕ
  pub own : List Decree
  pub promised : ℕ → Bool
  pub highest : Option Vote

pub record Message : Type 0 where
  -- who told of which vote, each in the slot of its chain
  pub votes : Vote → ℕ → Bool
  -- the chain that is known to be chosen
  pub known : Option (List Decree)
  pub round : Option Round
  -- the highest round at each place, of its own rounds and of refusals of its ballots; 0 if there is none
  pub seen : List ℕ
  -- by place, which attempts of this incarnation were granted, and what came of those that are closed
  pub granted : ℕ → Bool
  pub closed : ℕ → Option Outcome

-- a chain has so many decrees at most, and so many places
abbrev pub most_places : ℕ
most_places = 19

abbrev pub unseen : Message
unseen = record {
  votes = λ vote. nobody;
  known = None;
  round = None;
  seen = 0 ∷ 0 ∷ 0 ∷ 0 ∷ 0 ∷ 0 ∷ 0 ∷ 0 ∷ 0 ∷ 0 ∷ 0 ∷ 0 ∷ 0 ∷ 0 ∷ 0 ∷ 0 ∷ 0 ∷ 0 ∷ 0 ∷ [];
  granted = λ place. false;
  closed = λ place. None;
}
