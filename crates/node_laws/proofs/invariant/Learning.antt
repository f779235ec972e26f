-- What is known of a message after one more packet, by what is kept of it.
use Rattle.std.proofs.Common.{◌≡◌, ◌↔◌, ℕ, pred, Bool, true, false, List, [], ◌∷◌, length, Option, Some, None, sym, ap, subst, ◌∙◌, inl, inr, arith}
use Rattle.std.specs.Prelude.{◌&&◌}
use Rattle.std.proofs.lemmas.Bool.{and_parts, true≢false}
use Rattle.std.proofs.lemmas.Bool.Decides.{Decides-ltb, nat_tests}
use Rattle.mc_model.specs.message.Decree.{Decree}
use Rattle.mc_model.specs.synod.Lists.{In}
use Rattle.mc_model.specs.synod.Majority.{Majority}
use Rattle.mc_model.specs.synod.OneSlot.{Vote}
use Rattle.mc_model.specs.synod.Packet.{Packet, Slot, Voted, slot_at, slot_of}
use Rattle.mc_model.specs.node.Knowledge.{IsLearned}
use Rattle.mc_parts.proofs.Majorities.{counted, majority_counts}
use Rattle.mc_parts.proofs.Learning.{IsReached, IsShorter, known_stays, longer_is_known, none_learned}
use Rattle.node_model.specs.Sets.{is_majority}
use Rattle.node_model.specs.Message.{Message, unseen}
use Rattle.node_model.specs.Learner.{heard, is_shorter, makes_known}
use Rattle.node_model.specs.Packets.{known_then}
use Rattle.node_laws.specs.Stands.{HasHeard, TellsOfNone}
use Rattle.node_model.proofs.Heard.{with_voter}
use Rattle.node_model.proofs.Decisions.{most_decides}

-- ---- majorities

-- a majority of those that a test finds is one by the count
pub majority_decides : (nodes : ℕ) (P : ℕ → Type 0) (test : ℕ → Bool) → ((node : ℕ) → (test node ≡ true) ↔ P node) →
    (is_majority nodes test ≡ true) ↔ Majority nodes P
majority_decides nodes P test finds = (
  λ most. majority_counts nodes P test (λ node least within passes. (finds node).0 passes) ((most_decides nodes test).0 most),
  λ majority. (most_decides nodes test).1 (counted nodes P test (λ node least within holds. (finds node).1 holds) majority),
)

-- ---- one more vote is heard

module _ (nodes voter id : ℕ) (vote : Vote) (received : List Packet) (m : Message) (before : HasHeard nodes received id m) where
  abbrev Told : Packet
  Told = Voted voter (slot_of id vote.chain) vote

  votes_more : (node : ℕ) (other : Vote) → ((heard m voter vote).votes other node ≡ true) ↔ In (Voted node (slot_of id other.chain) other) (Told ∷ received)
  votes_more node other = (
    λ passes. elim ((with_voter m voter vote node other).0 passes) [
      | inl earlier ↦ inr ((before.votes node other).0 earlier)
      | inr now ↦ inl (λ i. Voted (now.1 i) (slot_of id (sym now.0 i).chain) (sym now.0 i))
    ],
    λ is_in. elim is_in [
      | inl same ↦
          let nodes_same : node ≡ voter = cc in
          let votes_same : other ≡ vote = cc in
          (with_voter m voter vote node other).1 (inr (sym votes_same, nodes_same))
      | inr earlier ↦ (with_voter m voter vote node other).1 (inl ((before.votes node other).1 earlier))
    ],
  )

  learned_decides : (is_majority nodes ((heard m voter vote).votes vote) ≡ true) ↔ IsLearned nodes (Told ∷ received) (slot_of id vote.chain) vote
  learned_decides =
      majority_decides nodes (λ acceptor. In (Voted acceptor (slot_of id vote.chain) vote) (Told ∷ received)) ((heard m voter vote).votes vote)
      (λ node. votes_more node vote)

  shorter_is : (known : Option (List Decree)) (chain : List Decree) → is_shorter known chain ≡ true → IsShorter known chain
  shorter_is None chain shorter = tt
  shorter_is (Some old) chain shorter = (Decides-ltb (pred (length old)) (pred (length chain))).0 shorter

  pub known_more : makes_known nodes (heard m voter vote) vote ≡ true → HasHeard nodes (Told ∷ received) id (known_then (heard m voter vote) vote.chain)
  known_more makes =
      let parts = and_parts (is_majority nodes ((heard m voter vote).votes vote)) (is_shorter m.known vote.chain) makes in
      record {
        votes = votes_more;
        known =
            longer_is_known nodes voter vote.ballot received id m.known vote.chain before.known (shorter_is m.known vote.chain parts.1)
            (learned_decides.0 parts.0);
      }

  far : (known : Option (List Decree)) (chain : List Decree) → is_shorter known chain ≡ false → IsReached known (pred (length chain))
  far None chain shorter = absurd (true≢false shorter)
  far (Some old) chain shorter = grind (arith, nat_tests)

  not_shorter : makes_known nodes (heard m voter vote) vote ≡ false → is_majority nodes ((heard m voter vote).votes vote) ≡ true →
      is_shorter m.known vote.chain ≡ false
  not_shorter makes most = sym (ap (λ (b : Bool). b && is_shorter m.known vote.chain) most) ∙ makes

  pub known_before : makes_known nodes (heard m voter vote) vote ≡ false → HasHeard nodes (Told ∷ received) id (heard m voter vote)
  known_before makes = record {
    votes = votes_more;
    known = known_stays nodes Told received id m.known before.known (λ place cast now learned.
        let same : Voted now.acceptor (slot_at id place) cast ≡ Voted voter (slot_of id vote.chain) vote = now.same in
        let slots : slot_at id place ≡ slot_of id vote.chain = cc in
        let casts : cast ≡ vote = cc in
        let places : pred (length vote.chain) ≡ place = sym (ap (λ (s : Slot). s.place) slots) in
        let here =
        subst (λ (v : Vote). IsLearned nodes (Told ∷ received) (slot_of id vote.chain) v) casts
        (subst (λ (s : Slot). IsLearned nodes (Told ∷ received) s cast) slots learned) in
        subst (λ (p : ℕ). IsReached m.known p) places (far m.known vote.chain (not_shorter makes (learned_decides.1 here))));
  }

-- ---- a packet that tells of no vote on a message

pub heard_still : (nodes id : ℕ) (packet : Packet) (received : List Packet) (m : Message) → TellsOfNone packet id → HasHeard nodes received id m →
    HasHeard nodes (packet ∷ received) id m
heard_still nodes id packet received m none before = record {
  votes = λ voter vote. (
    λ passes. inr ((before.votes voter vote).0 passes),
    λ is_in. elim is_in [
      | inl same ↦ absurd (none voter (pred (length vote.chain)) vote same)
      | inr earlier ↦ (before.votes voter vote).1 earlier
    ],
  );
  known = known_stays nodes packet received id m.known before.known (λ place vote now learned. absurd (none now.acceptor place vote now.same));
}

pub nothing_heard : (nodes id : ℕ) → HasHeard nodes [] id unseen
nothing_heard nodes id = record {
  votes = λ voter vote. ((λ passes. absurd (true≢false (sym passes))), (λ none. absurd none));
  known = λ place vote learned. none_learned nodes (slot_at id place) vote learned;
}
