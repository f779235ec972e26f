-- What is given out was chosen.
use Rattle.std.specs.Prelude.{ℕ, List}
use Rattle.mc_model.specs.message.Decree.{Decree}
use Rattle.mc_model.specs.node.Knowledge.{IsLearned}
use Rattle.mc_model.specs.synod.OneSlot.{vote_at}
use Rattle.mc_model.specs.synod.Packet.{Packet, slot_of}

-- a majority of the nodes voted for a chain of a message at one ballot, and among these packets they told so
pub record WasVotedFor (nodes : ℕ) (packets : List Packet) (id : ℕ) (chain : List Decree) : Type 0 where
  pub ballot : ℕ
  pub votes : IsLearned nodes packets (slot_of id chain) (vote_at ballot chain)
