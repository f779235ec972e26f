-- A note is what made a node know a chain: a vote, and who told of it. Once it has started anew these votes come again (own).
use Rattle.std.specs.Prelude.{◌≡◌, ℕ, Bool, ◌==◌, ◌||◌, true, false, List, [], ◌∷◌, ◌++◌, flat_map, map, Some, None}
use Rattle.mc_model.specs.message.Decree.{Attempt, Decree, Failed, Fate, Kind, Taken, Told}
use Rattle.mc_model.specs.node.Input.{Delivery, Input, Restart}
use Rattle.mc_model.specs.node.Outputs.{Outputs}
use Rattle.mc_model.specs.node.Setup.{Setup}
use Rattle.mc_model.specs.synod.Lists.{In}
use Rattle.mc_model.specs.synod.OneSlot.{Vote}
use Rattle.mc_model.specs.synod.Packet.{Packet, Slot, Voted, slot_of}
use Rattle.node_model.specs.Acceptor.{told_of}
use Rattle.node_model.specs.Answers.{ends_told}
use Rattle.node_model.specs.Kept.{Kept, message_at, with_message}
use Rattle.node_model.specs.Message.{unseen}
use Rattle.node_model.specs.Outputs.{nothing}
use Rattle.node_model.specs.Packets.{is_member, start_known, vote_concerns}
use Rattle.node_model.specs.Sets.{is_majority, nobody, with_node}
use Rattle.node_model.specs.Starts.{follow}
use Rattle.node_model.specs.Stepped.{restarted}
use Rattle.node_laws.specs.Runs.{kept_after, kept_outputs}
use Rattle.rest_laws.specs.AtRest.{AreAtRest, is_over}
use Rattle.rest_laws.specs.Cooled.{cool}
use Rattle.rest_laws.specs.Without.{without}

-- those who told of the vote stand with the last one first
pub record Note : Type 0 where
  pub slot : Slot
  pub vote : Vote
  pub voters : List ℕ

-- the set of these nodes
abbrev pub set_of : List ℕ → ℕ → Bool
set_of [] = nobody
set_of (node ∷ others) = with_node (set_of others) node

-- ---- the votes of a note come again

-- as packets
abbrev pub votes_of : Note → List Packet
votes_of n = map (λ voter. Voted voter n.slot n.vote) n.voters

-- the packets of a list come, the first of them last
abbrev pub come : List Packet → List Input
come packets = map Delivery packets

-- nothing goes out
abbrev pub AreNothing : List Outputs → Type 0
AreNothing [] = Unit {0}
AreNothing (newest ∷ older) = (newest ≡ nothing) × AreNothing older

-- A note of what a majority told the node, which it may hear again as it is: the votes are about a message that there is, and for no Told of its present
-- incarnation.
pub record IsNote (setup : Setup) (k : Kept) (n : Note) : Type 0 where
  pub earlier : ends_told setup.node k.incarnation n.vote.chain ≡ false
  pub concerns : vote_concerns setup k n.slot n.vote ≡ true
  pub members : (voter : ℕ) → In voter n.voters → is_member setup voter ≡ true
  pub majority : is_majority setup.nodes (set_of n.voters) ≡ true

-- if no request waits, such a chain starts no round as it becomes known
abbrev pub StartsNoRound : Setup → ℕ → List Decree → Type 0
StartsNoRound setup id chain = (k : Kept) → k.held ≡ [] → start_known setup k id None chain ≡ None

-- a message waits for an attempt, or for what comes of one
abbrev pub waits : Kind → Bool
waits (Taken message) = true
waits (Attempt number) = true
waits (Failed error) = true
waits (Fate final error) = false
waits Told = false

-- A node is up, nothing waits, and it has heard nothing of a message.
pub record IsFresh (k : Kept) (id : ℕ) : Type 0 where
  pub up : k.up ≡ true
  pub held : k.held ≡ []
  pub unheard : message_at k id ≡ unseen

-- Once the votes of a note came again the node knows their chain, no round runs, its records are as they were, and nothing went out. But for what it heard of
-- that message it keeps what it kept, with the chain put in.
pub record KnowsAgain (setup : Setup) (k : Kept) (n : Note) : Type 0 where
  pub known : (message_at (kept_after setup k (come (votes_of n))) n.slot.id).known ≡ Some n.vote.chain
  pub round : (message_at (kept_after setup k (come (votes_of n))) n.slot.id).round ≡ None
  pub records : (kept_after setup k (come (votes_of n))).records ≡ k.records
  pub quiet : AreNothing (kept_outputs setup k (come (votes_of n)))
  pub kept : cool (λ other. other == n.slot.id) (kept_after setup k (come (votes_of n)))
      ≡ cool (λ other. other == n.slot.id) (with_message k n.slot.id (record unseen { known = Some n.vote.chain }))

-- ---- what a node may note

-- A note of the chain that a node knows of a message: it heard each of these votes, and once it has started anew it may hear them again.
pub record HasNote (setup : Setup) (k : Kept) (id : ℕ) (chain : List Decree) : Type 0 where
  pub note : Note
  pub slot_is : note.slot ≡ slot_of id chain
  pub chain_is : note.vote.chain ≡ chain
  pub heard : (voter : ℕ) → In voter note.voters → (message_at k id).votes note.vote voter ≡ true
  pub again : (lost : ℕ) → IsNote setup (restarted setup k lost) note

-- ---- a start anew over notes

-- the votes of these notes, those of the first note the last to come
abbrev pub votes_in : List Note → List Packet
votes_in notes = flat_map votes_of notes

-- the node starts anew, and then they come
abbrev pub anew : ℕ → List Note → List Input
anew lost notes = come (votes_in notes) ++ Restart lost ∷ []

-- Notes of chains that start no round, of no message two.
abbrev pub AreNotes : Setup → Kept → List Note → Type 0
AreNotes setup k [] = Unit {0}
AreNotes setup k (n ∷ notes) =
    IsNote setup k n × StartsNoRound setup n.slot.id n.vote.chain × ((other : Note) → In other notes → other.slot.id ≡ n.slot.id → ⊥)
    × AreNotes setup k notes

-- their messages, and what is kept with their chains put in
abbrev pub noted_in : List Note → ℕ → Bool
noted_in [] id = false
noted_in (n ∷ notes) id = (id == n.slot.id) || noted_in notes id

abbrev pub with_known : Kept → List Note → Kept
with_known k [] = k
with_known k (n ∷ notes) = with_message (with_known k notes) n.slot.id (record unseen { known = Some n.vote.chain })

-- Over notes a node starts anew with what a start anew keeps and with their chains put in, but for what it heard of them; nothing goes out.
pub record OpensOver (setup : Setup) (k : Kept) (lost : ℕ) (notes : List Note) : Type 0 where
  pub kept : cool (noted_in notes) (kept_after setup k (anew lost notes)) ≡ cool (noted_in notes) (with_known (restarted setup k lost) notes)
  pub quiet : AreNothing (kept_outputs setup k (anew lost notes))

-- ---- over notes of what is gone

-- a note of a chain that is over, beyond which no own vote stands, of a message that is gone
pub record IsNoteOfGone (setup : Setup) (gone : ℕ → Bool) (k : Kept) (n : Note) : Type 0 where
  pub dropped : gone n.slot.id ≡ true
  pub note : IsNote setup k n
  pub over : is_over n.vote.chain ≡ true
  pub reached : follow (Some n.vote.chain) (told_of k.records n.slot.id) ≡ None

-- of no message there are two
abbrev pub AreNotesOfGone : Setup → (ℕ → Bool) → Kept → List Note → Type 0
AreNotesOfGone setup gone k [] = Unit {0}
AreNotesOfGone setup gone k (n ∷ notes) =
    IsNoteOfGone setup gone k n × ((other : Note) → In other notes → other.slot.id ≡ n.slot.id → ⊥) × AreNotesOfGone setup gone k notes

-- there is one of each message that is gone
pub record AreAllNoted (setup : Setup) (gone : ℕ → Bool) (k : Kept) (notes : List Note) : Type 0 where
  pub each : AreNotesOfGone setup gone k notes
  pub all : (id : ℕ) → gone id ≡ true → (n : Note) × In n notes × (n.slot.id ≡ id)

-- With all that was noted of what is gone the node starts anew as without it: nothing goes out, what is gone is at rest, and all else is as if it had never
-- been.
pub record StartsWithout (setup : Setup) (gone : ℕ → Bool) (k : Kept) (lost : ℕ) (notes : List Note) : Type 0 where
  pub kept : without gone (kept_after setup k (anew lost notes)) ≡ restarted setup (without gone k) lost
  pub quiet : AreNothing (kept_outputs setup k (anew lost notes))
  pub rest : AreAtRest gone (kept_after setup k (anew lost notes))
