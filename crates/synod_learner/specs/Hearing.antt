-- What a learner has heard, as packets that came to a node, and what it knows by it (Paxos Made Simple, 2.3).
use Rattle.std.specs.Prelude.{◌≡◌, ◌⊎◌, ◌↔◌, ℕ, ◌<◌, pred, Bool, true, false, List, ◌∷◌, length, Option, Some, None}
use Rattle.mc_model.specs.message.Decree.{Decree}
use Rattle.mc_types.specs.Nodes.{has}
use Rattle.mc_model.specs.message.Chain.{Chain}
use Rattle.mc_model.specs.synod.Lists.{In}
use Rattle.mc_model.specs.synod.Majority.{IsMajority}
use Rattle.mc_model.specs.synod.OneSlot.{Vote}
use Rattle.mc_model.specs.synod.Packet.{Packet, Slot, Voted, slot_of}
use Rattle.mc_model.specs.node.Knowledge.{IsKnown}
use Rattle.node_model.specs.Learner.{heard, makes_known}
use Rattle.node_model.specs.Message.{Message, unseen}
use Rattle.node_model.specs.Packets.{known_then}
use Rattle.synod_acceptor.specs.declared.vote.Vote.{Vote as Cast}
use Rattle.synod_acceptor.specs.Votes.{slot_in, vote_of}
use Rattle.synod_learner.specs.declared.recount.Recount.{Recount}
use Rattle.synod_learner.specs.Counts.{AreOfOthers, AreSingle, Count, IsCounted, IsUncounted, Learned, is_voter, known_in, with_voters}

-- It counted the votes of which these packets tell, and no others; and of each message it knows the chain that a node knows to
-- which they came: the longest of which a majority told at one ballot, and of equally long ones the first.
pub record HasHeard (l : Learned) (received : List Packet) : Type 0 where
  pub votes : (voter : ℕ) (slot : Slot) (vote : Vote) → IsCounted l.counts voter slot vote ↔ In (Voted voter slot vote) received
  pub known : (id : ℕ) → IsKnown l.nodes received id (known_in l.known id)

-- what is known of a message is shorter than a chain, or nothing
abbrev pub IsShorter : Option (List Decree) → List Decree → Type 0
IsShorter None chain = Unit {0}
IsShorter (Some old) chain = pred (length old) < pred (length chain)

-- a vote's chain is known from then on, if these nodes cast it
abbrev pub MakesKnown : ℕ → List Chain → ℕ → Cast → Type 0
MakesKnown nodes known voters vote = IsMajority nodes (has voters) × IsShorter (known_in known vote.chain.id) vote.chain.decrees

-- of a vote that a majority cast the chain is known, or one of its message that is as long
pub record AreLearned (nodes : ℕ) (counts : List Count) (known : List Chain) : Type 0 where
  pub each : (count : Count) → In count counts → IsMajority nodes (has count.voters) →
      IsShorter (known_in known count.slot.id) count.vote.chain → ⊥

-- what a learner holds agrees: no vote has two counts, and no message two chains
pub record IsCoherent (nodes : ℕ) (counts : List Count) (known : List Chain) : Type 0 where
  pub single : AreSingle counts
  pub others : AreOfOthers known
  pub learned : AreLearned nodes counts known

-- ---- a message, as a node keeps it

-- by what a learner heard and knows of it alone
abbrev pub message_in : Learned → ℕ → Message
message_in l id = record unseen { votes = λ vote. is_voter l.counts (slot_of id vote.chain) vote; known = known_in l.known id }

-- a chain becomes known, or not
abbrev pub known_if : Bool → Message → List Decree → Message
known_if false m chain = m
known_if true m chain = known_then m chain

-- ---- a vote whose chain was voted for at its ballot before

-- a learner that counts a vote anew
abbrev pub recounted : Learned → Recount → Learned
recounted l r = record l { counts = with_voters l.counts r.place r.voters }

-- what the learner holds has that count, and agrees then
pub record IsRecount (l : Learned) (r : Recount) : Type 0 where
  pub stands : r.place < length l.counts
  pub coherent : IsCoherent l.nodes (with_voters l.counts r.place r.voters) l.known

-- so it counts the vote of which a node tells, and nothing becomes known
pub record CountsAnew (l : Learned) (voter : ℕ) (vote : Cast) (r : Recount) : Type 0 where
  pub fits : IsRecount l r
  pub nothing : makes_known l.nodes (heard (message_in l vote.chain.id) voter (vote_of vote)) (vote_of vote) ≡ false
  pub message : message_in (recounted l r) vote.chain.id ≡ heard (message_in l vote.chain.id) voter (vote_of vote)
  pub heard_so : (received : List Packet) → HasHeard l received → HasHeard (recounted l r) (Voted voter (slot_in vote) (vote_of vote) ∷ received)

-- how it counts that vote; not so, if it is the first of its chain and ballot, or makes its chain known
abbrev pub IsRecountFor : Learned → ℕ → Cast → Option Recount → Type 0
IsRecountFor l voter vote None =
    IsUncounted l.counts (slot_in vote) (vote_of vote)
    ⊎ (makes_known l.nodes (heard (message_in l vote.chain.id) voter (vote_of vote)) (vote_of vote) ≡ true)
IsRecountFor l voter vote (Some r) = CountsAnew l voter vote r
