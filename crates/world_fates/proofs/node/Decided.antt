-- A final state that a node knew is told by each reply to a query_sm from then on, also after restarts.
use Rattle.std.proofs.Common.{◌≡◌, ◌⊎◌, ℕ, ◌≤◌, List, length, Some, refl, sym, subst, pred, inl, inr, arith}
use Rattle.mc_model.specs.message.Decree.{Decree, Final}
use Rattle.mc_model.specs.message.Chain.{final_in}
use Rattle.mc_model.specs.synod.Lists.{In}
use Rattle.mc_model.specs.synod.Majority.{Majority}
use Rattle.mc_model.specs.synod.OneSlot.{Vote, vote_at}
use Rattle.mc_model.specs.synod.Packet.{Packet, Slot, slot_of}
use Rattle.mc_model.specs.node.Actor.{Actor, Waiting, id_in, name_of}
use Rattle.mc_model.specs.node.Act.{Act}
use Rattle.mc_model.specs.node.Knowledge.{IsLearned, Knows}
use Rattle.mc_model.specs.node.Replies.{MayReply, Shown}
use Rattle.mc_model.specs.cluster.World.{IsChosenIn, May, World, after, cast}
use Rattle.mc_laws.proofs.invariant.Agreement.{Chosen, known_chosen, learned_chosen, not_empty}
use Rattle.mc_laws.proofs.invariant.Answers.{IsSeen, covered, shown_settled}
use Rattle.mc_laws.proofs.invariant.Growth.{actors_after, grows, remembers}
use Rattle.mc_laws.proofs.invariant.Reached.{Holds, chosen_fates_same, fate_longest}
use Rattle.world_fates.proofs.node.Since.{AllSince, nobody_waits, since_after}

-- the node learned a chain with a final state, or each of its requests about the message came since that was chosen
pub record IsDecided (node : ℕ) (w : World) (id : ℕ) (final : Final) : Type 0 where
  pub chain : List Decree
  pub ballot : ℕ
  pub ends : final_in chain ≡ Some final
  pub seen : IsLearned w.nodes (w.actors node).received (slot_of id chain) (vote_at ballot chain)
      ⊎ AllSince node (slot_of id chain) (vote_at ballot chain) w

-- so it is chosen
chosen_so : (node : ℕ) (w : World) → Holds w → (id : ℕ) (final : Final) (d : IsDecided node w id final) → Chosen w id d.chain
chosen_so node w h id final d = record {
  ballot = d.ballot;
  chosen = elim d.seen [
    | inl learned ↦ learned_chosen w h.keeps node (slot_of id d.chain) (vote_at d.ballot d.chain) learned
    | inr since ↦ subst (λ (n : ℕ). Majority n (λ acceptor. In (cast acceptor (slot_of id d.chain) (vote_at d.ballot d.chain)) w.votes)) (sym since.nodes)
        (record {
          test = since.chosen.test;
          most = since.chosen.most;
          each = λ voter least most passes. since.votes _ (since.chosen.each voter least most passes);
        })
  ];
}

-- and the same at all nodes
pub decided_once : (one other : ℕ) (w : World) → Holds w → (id : ℕ) (first second : Final) → IsDecided one w id first → IsDecided other w id second →
    first ≡ second
decided_once one other w h id first second here there =
    chosen_fates_same w h id here.chain there.chain first second (chosen_so one w h id first here) (chosen_so other w h id second there)
    here.ends there.ends

-- ---- it stays decided

module _ (node : ℕ) (w : World) (h : Holds w) (slot : Slot) (vote : Vote) (by : ℕ) (act : Act) (may : May w by act)
    (learned : IsLearned w.nodes (w.actors node).received slot vote) where
  abbrev Seen : Type 0
  Seen = IsLearned w.nodes ((after w by act).actors node).received slot vote ⊎ AllSince node slot vote (after w by act)

  learned_more : ((packet : Packet) → In packet (w.actors node).received → In packet ((after w by act).actors node).received) → Seen
  learned_more more = inl (record {
    test = learned.test;
    most = learned.most;
    each = λ voter least most passes. more _ (learned.each voter least most passes);
  })

  learned_before : ((waiting : Waiting) → In waiting ((after w by act).actors node).waiting → ⊥) → Seen
  learned_before none = inr (record {
    before = w;
    nodes = refl;
    chosen = learned_chosen w h.keeps node slot vote learned;
    votes = (grows w by act may).votes;
    asked = λ waiting is_in about. absurd (none waiting is_in);
  })

  seen_after : Seen
  seen_after = elim (actors_after w by act node) [
    | inl at ↦ elim (remembers by (w.actors by) act) [
      | inl anew ↦ learned_before (λ waiting is_in.
          nobody_waits by (w.actors by) act anew waiting (subst (λ (a : Actor). In waiting a.waiting) at.actor_is is_in))
      | inr r ↦ learned_more (λ packet is_in. subst (λ (a : Actor). In packet a.received) (sym at.actor_is)
          (r.received packet (subst (λ (n : ℕ). In packet (w.actors n).received) at.node_is is_in)))
    ]
    | inr elsewhere ↦ learned_more (λ packet is_in. subst (λ (a : Actor). In packet a.received) (sym elsewhere) is_in)
  ]

pub decided_after : (node : ℕ) (w : World) → Holds w → (by : ℕ) (act : Act) → May w by act → (id : ℕ) (final : Final) →
    IsDecided node w id final → IsDecided node (after w by act) id final
decided_after node w h by act may id final d = record {
  chain = d.chain;
  ballot = d.ballot;
  ends = d.ends;
  seen = elim d.seen [
    | inl learned ↦ seen_after node w h (slot_of id d.chain) (vote_at d.ballot d.chain) by act may learned
    | inr since ↦ inr (since_after node (slot_of id d.chain) (vote_at d.ballot d.chain) w h since by act may)
  ];
}

-- ---- replies

-- what a reply tells is decided then
pub told_decides : (node : ℕ) (w : World) (id : ℕ) (chain : List Decree) (final : Final) → Knows w.nodes (w.actors node).received id chain →
    final_in chain ≡ Some final → IsDecided node w id final
told_decides node w id chain final knows ends = record { chain = chain; ballot = knows.ballot; ends = ends; seen = inl knows.learned }

module _ (node : ℕ) (w : World) (h : Holds w) (ticket id : ℕ) (chain : List Decree) (final : Final) (d : IsDecided node w id final)
    (may : MayReply w.nodes node (w.actors node) ticket id (Shown chain)) where
  abbrev waiting : Waiting
  waiting = may.asked.waiting

  sees : IsSeen w.nodes node (w.actors node) waiting chain
  sees = shown_settled w.nodes node (w.actors node) waiting waiting.request chain may.fits

  knows : Knows w.nodes (w.actors node).received id chain
  knows = subst (λ (i : ℕ). Knows w.nodes (w.actors node).received i chain) may.asked.about sees.known

  chosen_before : (since : AllSince node (slot_of id d.chain) (vote_at d.ballot d.chain) w) → Chosen since.before (id_in waiting.request) d.chain
  chosen_before since = record {
    ballot = d.ballot;
    chosen = subst (λ (i : ℕ). IsChosenIn since.before (slot_of i d.chain) (vote_at d.ballot d.chain)) (sym may.asked.about) since.chosen;
  }

  -- what it shows is not shorter
  far : pred (length d.chain) ≤ pred (length chain)
  far = elim d.seen [
    | inl learned ↦ knows.longest (pred (length d.chain)) (vote_at d.ballot d.chain) learned
    | inr since ↦
        covered since.before w (name_of node (w.actors node) waiting) (id_in waiting.request) (since.asked waiting may.asked.waits may.asked.about)
        since.nodes h node
        d.chain (chosen_before since) (Some chain) sees.settled
  ]

  pub shown_so : final_in chain ≡ Some final
  shown_so =
      let is : Chosen w id chain = known_chosen w h.keeps node id chain knows in
      let some : 1 ≤ length chain = not_empty w h.keeps h.links id chain is in
      fate_longest w h id d.chain chain final (chosen_so node w h id final d) is d.ends (longer (length d.chain) (length chain) some far)
    where
      longer : (a b : ℕ) → 1 ≤ b → pred a ≤ pred b → a ≤ b
      longer a b some long = omega (arith, some, long)
