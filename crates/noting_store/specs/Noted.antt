-- Notes (own). In its meaning a note is the `Note` of `rest_laws`: once its node has started anew, those votes come again.
use Rattle.std.specs.Prelude.{◌≡◌, ◌↔◌, ℕ, zero, suc, ◌≤◌, Bool, true, List, [], ◌∷◌, map, if◌then◌else◌}
use Rattle.mc_model.specs.synod.Lists.{In}
use Rattle.mc_model.specs.synod.Majority.{IsMajority}
use Rattle.mc_model.specs.synod.OneSlot.{Vote}
use Rattle.mc_model.specs.synod.Packet.{Slot}
use Rattle.node_model.specs.Sets.{is_majority, nobody, with_node}
use Rattle.mc_types.specs.Nodes.{has}
use Rattle.synod_acceptor.specs.declared.vote.Vote.{Vote as Cast}
use Rattle.synod_acceptor.specs.Votes.{slot_in, vote_of}

-- what made a node know a chain: a vote, and who told of it
pub record Noted : Type 0 where
  pub slot : Slot
  pub vote : Vote
  pub voters : List ℕ

-- the nodes up to this one that pass a test, the last first
abbrev pub nodes_to : (ℕ → Bool) → ℕ → List ℕ
nodes_to test zero = []
nodes_to test (suc node) = if test (suc node) then suc node ∷ nodes_to test node else nodes_to test node

-- those of nine that are in a set of nodes
abbrev pub nodes_in : ℕ → List ℕ
nodes_in set = nodes_to (has set) 9

-- a set is of nodes of a cluster of so many, and more than half of them are in it (Paxos Made Simple, 2.2)
pub record AreMost (nodes set : ℕ) : Type 0 where
  pub members : (voter : ℕ) → has set voter ≡ true → voter ≤ nodes
  pub majority : IsMajority nodes (has set)

-- a note as a value: of a cluster of so many nodes, a vote and the set of those who told of it
pub record Note : Type 0 where
  pub nodes : ℕ
  pub vote : Cast
  pub voters : ℕ

abbrev pub noted_of : Note → Noted
noted_of note = record { slot = slot_in note.vote; vote = vote_of note.vote; voters = nodes_in note.voters }

abbrev pub noted_in : List Note → List Noted
noted_in notes = map noted_of notes

-- none is of this message
abbrev pub HasNone : ℕ → List Noted → Type 0
HasNone id notes = (n : Noted) → In n notes → n.slot.id ≡ id → ⊥

-- of no message there are two
abbrev pub AreApart : List Noted → Type 0
AreApart [] = Unit {0}
AreApart (n ∷ more) = HasNone n.slot.id more × AreApart more

-- all are of a cluster of so many nodes
abbrev pub AreOf : ℕ → List Note → Type 0
AreOf nodes notes = (note : Note) → In note notes → note.nodes ≡ nodes

-- ---- who told, as `rest_laws` has it

abbrev pub set_of : List ℕ → ℕ → Bool
set_of [] = nobody
set_of (voter ∷ others) = with_node (set_of others) voter

-- those in the list are the nodes of the set, all of them nodes of the cluster, and more than half of its nodes (Paxos Made Simple, 2.2)
pub record SaysWhoTold (nodes set : ℕ) : Type 0 where
  pub voters : (voter : ℕ) → In voter (nodes_in set) ↔ (has set voter ≡ true)
  pub members : (voter : ℕ) → In voter (nodes_in set) → (1 ≤ voter) × (voter ≤ nodes)
  pub majority : is_majority nodes (set_of (nodes_in set)) ≡ true
