-- What a node by itself makes of each of its own packets.
use Rattle.std.proofs.Common.{◌≡◌, ℕ, true, List, [], ◌∷◌, Some, None, refl, arith}
use Rattle.std.specs.Prelude.{◌==◌, ◌||◌, nat_le, nat_lt, not}
use Rattle.std.proofs.lemmas.Bool.{le-leb, or_right}
use Rattle.mc_model.specs.message.Decree.{Decree}
use Rattle.mc_model.specs.message.Ids.{node_of}
use Rattle.mc_model.specs.synod.OneSlot.{Vote, vote_at}
use Rattle.mc_model.specs.synod.Packet.{Ask, Name, Prepare, Promise, Propose, Slot, Tell, Voted, same_slot, slot_of}
use Rattle.mc_model.specs.synod.Acceptor.{after_vote, blank}
use Rattle.mc_model.specs.node.Input.{Delivery}
use Rattle.node_model.specs.Sets.{is_majority, nobody}
use Rattle.node_model.specs.Message.{Message, Round}
use Rattle.node_model.specs.Kept.{Kept, message_at, saved, with_message}
use Rattle.node_model.specs.Acceptor.{told_of}
use Rattle.node_model.specs.Learner.{heard, is_shorter}
use Rattle.node_model.specs.Same.{same_vote}
use Rattle.node_model.specs.Packets.{on_known, was_given}
use Rattle.node_model.specs.Proposer.{promised_by}
use Rattle.node_model.specs.Outputs.{sends}
use Rattle.node_model.specs.Stepped.{stepped}
use Rattle.node_model.proofs.Same.{vote_decides}
use Rattle.table_laws.specs.Alone.{alone}
use Rattle.mc_parts.proofs.Membership.{slot_self}
use Rattle.table_laws.proofs.Frames.{eqb_self}

-- a round in which nobody has promised
abbrev pub begun_round : Slot → ℕ → List Decree → Round
begun_round slot ballot chain = record { slot = slot; ballot = ballot; own = chain; promised = nobody; highest = None }

-- and one in which the node has, with no vote to report
abbrev pub promised_round : Slot → ℕ → List Decree → Round
promised_round slot ballot chain = promised_by (begun_round slot ballot chain) 1 None

-- whoever told of a vote besides, the node's own telling is of a majority
heard_by_most : (m : Message) (vote : Vote) → is_majority 1 ((heard m 1 vote).votes vote) ≡ true
heard_by_most m vote =
    let same : same_vote vote vote ≡ true = (vote_decides vote vote).1 refl in
    let own : (m.votes vote 1 || 1 == 1) ≡ true = or_right (m.votes vote 1) (1 == 1) refl in
    rw (same, own) refl

module _ (first validity : ℕ) (k : Kept) (up : k.up ≡ true) where
  pub prepare_delivered : (slot : Slot) (ballot : ℕ) → k.records slot ≡ blank → nat_lt 0 ballot ≡ true →
      stepped (alone first validity) k (Delivery (Prepare 1 slot ballot))
      ≡ sends (saved k slot (record { promised = ballot; vote = None })) (Promise 1 slot ballot None ∷ []) [] []
  prepare_delivered slot ballot is above = rw (up, is, above) refl

  pub promise_delivered : (slot : Slot) (ballot : ℕ) (chain : List Decree) → (message_at k slot.id).round ≡ Some (begun_round slot ballot chain) →
      stepped (alone first validity) k (Delivery (Promise 1 slot ballot None))
      ≡ sends (with_message k slot.id (record (message_at k slot.id) { round = Some (promised_round slot ballot chain) }))
      (Propose 1 slot (vote_at ballot chain) ∷ []) [] []
  promise_delivered slot ballot chain is = rw (up, is, slot_self slot, eqb_self ballot) refl

  pub propose_delivered : (slot : Slot) (ballot : ℕ) (chain : List Decree) → k.records slot ≡ record { promised = ballot; vote = None } →
      stepped (alone first validity) k (Delivery (Propose 1 slot (vote_at ballot chain)))
      ≡ sends (saved k slot (after_vote (vote_at ballot chain))) (Voted 1 slot (vote_at ballot chain) ∷ []) [] []
  propose_delivered slot ballot chain is =
      let below : nat_le ballot ballot ≡ true = le-leb ballot ballot (omega arith) in rw (up, is, below) refl

  pub voted_delivered : (slot : Slot) (vote : Vote) → same_slot slot (slot_of slot.id vote.chain) ≡ true → was_given k slot.id ≡ true →
      is_shorter (message_at k slot.id).known vote.chain ≡ true →
      stepped (alone first validity) k (Delivery (Voted 1 slot vote)) ≡ on_known (alone first validity) k slot.id
      (heard (message_at k slot.id) 1 vote) vote.chain
  voted_delivered slot vote placed given shorter =
      let mine : (not (node_of slot.id == 1) || was_given k slot.id) ≡ true = or_right (not (node_of slot.id == 1)) (was_given k slot.id) given in
      rw (up, placed, mine, heard_by_most (message_at k slot.id) vote, shorter) refl

  pub ask_delivered : (id : ℕ) (name : Name) →
      stepped (alone first validity) k (Delivery (Ask 1 id name)) ≡ sends k (Tell 1 name (told_of k.records id) ∷ []) [] []
  ask_delivered id name = rw up refl
