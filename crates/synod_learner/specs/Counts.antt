-- Votes, counted: for each slot, ballot and chain the set of those who voted for it.
use Rattle.std.specs.Prelude.{◌≡◌, ℕ, ◌==◌, ◌&&◌, ◌||◌, Bool, true, false, List, [], ◌∷◌, ◌++◌, set, slice_get, map, Option, Some, None, if◌then◌else◌}
use Rattle.mc_types.specs.Nodes.{has}
use Rattle.mc_model.specs.message.Chain.{Chain}
use Rattle.mc_model.specs.message.Decree.{Decree}
use Rattle.mc_model.specs.synod.Lists.{In}
use Rattle.mc_model.specs.synod.OneSlot.{Vote}
use Rattle.mc_model.specs.synod.Packet.{Slot, same_slot}
use Rattle.node_model.specs.Same.{same_vote}
use Rattle.synod_acceptor.specs.Votes.{slot_in, vote_of}
use Rattle.synod_learner.specs.declared.tally.Tally.{Tally}

pub record Count : Type 0 where
  pub slot : Slot
  pub vote : Vote
  pub voters : ℕ

abbrev pub count_of : Tally → Count
count_of t = record { slot = slot_in t.vote; vote = vote_of t.vote; voters = t.voters }

abbrev pub counts_of : List Tally → List Count
counts_of tallies = map count_of tallies

-- a voter is counted for a vote
pub record IsCounted (counts : List Count) (voter : ℕ) (slot : Slot) (vote : Vote) : Type 0 where
  pub voters : ℕ
  pub stands : In (record { slot = slot; vote = vote; voters = voters }) counts
  pub counted : has voters voter ≡ true

-- the same, as a test
abbrev pub is_voter : List Count → Slot → Vote → ℕ → Bool
is_voter [] slot vote node = false
is_voter (first ∷ others) slot vote node =
    (same_slot first.slot slot && (same_vote first.vote vote && has first.voters node)) || is_voter others slot vote node

-- nobody is
abbrev pub IsUncounted : List Count → Slot → Vote → Type 0
IsUncounted counts slot vote = (voters : ℕ) → In (record { slot = slot; vote = vote; voters = voters }) counts → ⊥

-- no vote has two counts
abbrev pub AreSingle : List Count → Type 0
AreSingle [] = Unit {0}
AreSingle (first ∷ others) = IsUncounted others first.slot first.vote × AreSingle others

-- where the count of a vote stands
pub record IsCountAt (counts : List Count) (slot : Slot) (vote : Vote) (place : ℕ) : Type 0 where
  pub voters : ℕ
  pub stands : slice_get counts place ≡ Some (record { slot = slot; vote = vote; voters = voters })

abbrev pub IsCountPlace : List Count → Slot → Vote → Option ℕ → Type 0
IsCountPlace counts slot vote None = IsUncounted counts slot vote
IsCountPlace counts slot vote (Some place) = IsCountAt counts slot vote place

-- the set of those who cast the vote whose count stands there; nobody if it has none
abbrev pub IsVotersAt : List Count → Option ℕ → ℕ → Type 0
IsVotersAt counts None voters = (node : ℕ) → has voters node ≡ false
IsVotersAt counts (Some place) voters = (count : Count) × (slice_get counts place ≡ Some count) × (count.voters ≡ voters)

-- a count in the place of another, or behind the others
abbrev pub with_count : List Count → Option ℕ → Count → List Count
with_count counts None count = counts ++ count ∷ []
with_count counts (Some place) count = set counts place count

-- the counts, of which the one at this place is of these voters
abbrev pub with_voters_of : List Count → ℕ → ℕ → Option Count → List Count
with_voters_of counts place voters None = counts
with_voters_of counts place voters (Some count) = set counts place (record count { voters = voters })

abbrev pub with_voters : List Count → ℕ → ℕ → List Count
with_voters counts place voters = with_voters_of counts place voters (slice_get counts place)

-- the chain of a message that is known, if any
abbrev pub known_in : List Chain → ℕ → Option (List Decree)
known_in [] id = None
known_in (first ∷ others) id = if first.id == id then Some first.decrees else known_in others id

-- no message has two
abbrev pub AreOfOthers : List Chain → Type 0
AreOfOthers [] = Unit {0}
AreOfOthers (first ∷ others) = (known_in others first.id ≡ None) × AreOfOthers others

-- where the chain of a message stands
pub record IsChainAt (chains : List Chain) (id place : ℕ) : Type 0 where
  pub chain : Chain
  pub stands : slice_get chains place ≡ Some chain
  pub is_of : chain.id ≡ id

abbrev pub IsChainPlace : List Chain → ℕ → Option ℕ → Type 0
IsChainPlace chains id None = known_in chains id ≡ None
IsChainPlace chains id (Some place) = IsChainAt chains id place

-- A chain is known in the place of that of its message.
pub record WithChain (old : List Chain) (chain : Chain) (new : List Chain) : Type 0 where
  pub others : AreOfOthers new
  pub known : (id : ℕ) → known_in new id ≡ (if id == chain.id then Some chain.decrees else known_in old id)

-- where it grows, and else it stays
abbrev pub Grows : Bool → List Chain → Chain → List Chain → Type 0
Grows false old chain new = new ≡ old
Grows true old chain new = WithChain old chain new

-- what a learner holds: of how many nodes it is, the counts, and what it knows
pub record Learned : Type 0 where
  pub nodes : ℕ
  pub counts : List Count
  pub known : List Chain
