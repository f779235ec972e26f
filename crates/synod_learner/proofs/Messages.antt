-- What a learner heard and knows of a message, as a node keeps it.
use Rattle.std.proofs.Common.{◌≡◌, ◌⊎◌, ◌↔◌, ℕ, pred, ◌*◌, ◌<◌, Bool, true, false, cond, List, [], ◌∷◌, length, Option, Some, None, refl}
use Rattle.std.proofs.Common.{sym, ap, subst, ◌∙◌, inl, inr, arith}
use Rattle.std.proofs.Math.Path.{fun_ext}
use Rattle.std.specs.Prelude.{◌==◌, ◌&&◌, IsTrue}
use Rattle.std.specs.Bool.{Decides}
use Rattle.std.specs.Cmp.{both_ways}
use Rattle.std.proofs.lemmas.Bool.{cases_Bool, eq-eqb, true≢false}
use Rattle.std.proofs.lemmas.Bool.Decides.{Decides-and, Decides-eqb, Decides-like, Decides-ltb, Decides-or}
use Rattle.mc_types.specs.Nodes.{has}
use Rattle.mc_model.specs.message.Decree.{Decree}
use Rattle.mc_model.specs.message.Chain.{Chain}
use Rattle.mc_model.specs.synod.Lists.{In}
use Rattle.mc_model.specs.synod.Majority.{IsMajority, count as count_nodes}
use Rattle.mc_model.specs.synod.OneSlot.{Vote}
use Rattle.mc_model.specs.synod.Packet.{Slot, same_slot, slot_of}
use Rattle.mc_parts.proofs.Membership.{slots_same}
use Rattle.node_model.specs.Learner.{heard, is_shorter, makes_known}
use Rattle.node_model.specs.Message.{unseen}
use Rattle.node_model.specs.Same.{same_vote}
use Rattle.node_model.specs.Sets.{is_majority}
use Rattle.node_model.proofs.Heard.{with_voter}
use Rattle.node_model.proofs.Same.{vote_decides}
use Rattle.synod_acceptor.specs.declared.vote.Vote.{Vote as Cast}
use Rattle.synod_acceptor.specs.Votes.{slot_in, vote_of}
use Rattle.synod_acceptor.proofs.Slots.{is_same}
use Rattle.synod_learner.specs.Counts.{AreSingle, Count, Grows, IsCounted, is_voter, known_in, with_count}
use Rattle.synod_learner.specs.Hearing.{AreLearned, IsShorter, MakesKnown, known_if, message_in}
use Rattle.synod_learner.proofs.Counts.{IsAdded, count, single_in, with_from}
use Rattle.synod_learner.proofs.Hearing.{learned_of}

-- ---- the test of who is counted

abbrev IsOfFirst : Count → Slot → Vote → ℕ → Type 0
IsOfFirst first slot vote node = (first.slot ≡ slot) × ((first.vote ≡ vote) × (has first.voters node ≡ true))

first_decides : (first : Count) (slot : Slot) (vote : Vote) (node : ℕ) →
    Decides (same_slot first.slot slot && (same_vote first.vote vote && has first.voters node)) (IsOfFirst first slot vote node)
first_decides first slot vote node =
    Decides-and _ _ (slots_same first.slot slot, is_same first.slot slot) (Decides-and _ _ (vote_decides first.vote vote) ((λ t. t), (λ t. t)))

pub voter_decides : (counts : List Count) (slot : Slot) (vote : Vote) (node : ℕ) → Decides (is_voter counts slot vote node) (IsCounted counts node slot vote)
voter_decides [] slot vote node = (λ t. absurd (true≢false (sym t)), λ counted. absurd counted.stands)
voter_decides (first ∷ others) slot vote node =
    Decides-like (is_voter (first ∷ others) slot vote node) here back
    (Decides-or _ _ (first_decides first slot vote node) (voter_decides others slot vote node))
  where
    here : IsOfFirst first slot vote node ⊎ IsCounted others node slot vote → IsCounted (first ∷ others) node slot vote
    here (inl same) = record { voters = first.voters; stands = inl (λ i. count (sym same.0 i) (sym same.1.0 i) first.voters); counted = same.1.1 }
    here (inr later) = record { voters = later.voters; stands = inr later.stands; counted = later.counted }

    back : IsCounted (first ∷ others) node slot vote → IsOfFirst first slot vote node ⊎ IsCounted others node slot vote
    back counted = elim counted.stands [
      | inl same ↦ inl (
        sym (ap (λ (c : Count). c.slot) same),
        (sym (ap (λ (c : Count). c.vote) same), subst (λ (v : ℕ). has v node ≡ true) (ap (λ (c : Count). c.voters) same) counted.counted),
      )
      | inr later ↦ inr (record { voters = counted.voters; stands = later; counted = counted.counted })
    ]

-- those of a set are counted, and no others
pub test_is : (counts : List Count) (slot : Slot) (vote : Vote) (voters : ℕ) →
    ((node : ℕ) → (has voters node ≡ true) ↔ IsCounted counts node slot vote) → is_voter counts slot vote ≡ has voters
test_is counts slot vote voters are = fun_ext λ node.
    both_ways _ _ (λ t. (are node).1 ((voter_decides counts slot vote node).0 t)) (λ t. (voter_decides counts slot vote node).1 ((are node).0 t))

pub counted_are : (counts : List Count) (slot : Slot) (vote : Vote) (voters : ℕ) → AreSingle counts → In (count slot vote voters) counts →
    (node : ℕ) → (has voters node ≡ true) ↔ IsCounted counts node slot vote
counted_are counts slot vote voters single stands node = (
  λ has_it. record { voters = voters; stands = stands; counted = has_it },
  λ counted. subst (λ (v : ℕ). has v node ≡ true) (single_in counts slot vote counted.voters voters single counted.stands stands) counted.counted,
)

-- ---- one more vote

pub votes_heard : (nodes : ℕ) (counts new : List Count) (known : List Chain) (voter : ℕ) (vote : Cast) →
    IsAdded counts new voter (slot_in vote) (vote_of vote) →
    (message_in (learned_of nodes new known) vote.chain.id).votes ≡
    (heard (message_in (learned_of nodes counts known) vote.chain.id) voter (vote_of vote)).votes
votes_heard nodes counts new known voter vote added = fun_ext λ other. fun_ext λ node. both_ways _ _ (forth other node) (back other node)
  where
    forth : (other : Vote) (node : ℕ) → is_voter new (slot_of vote.chain.id other.chain) other node ≡ true →
        (heard (message_in (learned_of nodes counts known) vote.chain.id) voter (vote_of vote)).votes other node ≡ true
    forth other node t =
        (with_voter (message_in (learned_of nodes counts known) vote.chain.id) voter (vote_of vote) node other).1
        (elim (added.only node (slot_of vote.chain.id other.chain) other ((voter_decides new (slot_of vote.chain.id other.chain) other node).0 t)) [
          | inl was ↦ inl ((voter_decides counts (slot_of vote.chain.id other.chain) other node).1 was)
          | inr same ↦
              let votes : vote_of vote ≡ other = cc in
              let nodes : node ≡ voter = cc in
              inr (votes, nodes)
        ])

    back : (other : Vote) (node : ℕ) →
        (heard (message_in (learned_of nodes counts known) vote.chain.id) voter (vote_of vote)).votes other node ≡ true →
        is_voter new (slot_of vote.chain.id other.chain) other node ≡ true
    back other node t =
        (voter_decides new (slot_of vote.chain.id other.chain) other node).1
        (elim ((with_voter (message_in (learned_of nodes counts known) vote.chain.id) voter (vote_of vote) node other).0 t) [
          | inl was ↦ added.before node (slot_of vote.chain.id other.chain) other ((voter_decides counts (slot_of vote.chain.id other.chain) other node).0 was)
          | inr now ↦
              subst (λ (v : Vote). IsCounted new node (slot_of vote.chain.id v.chain) v) now.0
              (subst (λ (n : ℕ). IsCounted new n (slot_in vote) (vote_of vote)) (sym now.1) added.this)
        ])

shorter_decides : (known : Option (List Decree)) (chain : List Decree) → Decides (is_shorter known chain) (IsShorter known chain)
shorter_decides None chain = (λ t. tt, λ t. refl)
shorter_decides (Some old) chain = Decides-ltb (pred (length old)) (pred (length chain))

makes_decides : (nodes voters : ℕ) (known : Option (List Decree)) (chain : List Decree) →
    Decides (is_majority nodes (has voters) && is_shorter known chain) (IsMajority nodes (has voters) × IsShorter known chain)
makes_decides nodes voters known chain =
    Decides-and _ _ (Decides-ltb nodes (2 * count_nodes (has voters) nodes)) (shorter_decides known chain)

-- the set of those who cast it decides whether its chain becomes known
pub grows_is : (nodes voters : ℕ) (test : ℕ → Bool) (known : Option (List Decree)) (chain : List Decree) (grows : Bool) → test ≡ has voters →
    (IsTrue grows ↔ IsMajority nodes (has voters) × IsShorter known chain) → grows ≡ (is_majority nodes test && is_shorter known chain)
grows_is nodes voters test known chain grows same decides =
    both_ways grows (is_majority nodes (has voters) && is_shorter known chain)
    (λ t. (makes_decides nodes voters known chain).1 (decides.0 t))
    (λ t. decides.1 ((makes_decides nodes voters known chain).0 t))
    ∙ ap (λ (f : ℕ → Bool). is_majority nodes f && is_shorter known chain) (sym same)

pub message_is : (grows : Bool) (nodes : ℕ) (counts new : List Count) (known later : List Chain) (voter : ℕ) (vote : Cast) →
    IsAdded counts new voter (slot_in vote) (vote_of vote) → Grows grows known vote.chain later →
    message_in (learned_of nodes new later) vote.chain.id ≡ known_if grows
    (heard (message_in (learned_of nodes counts known) vote.chain.id) voter (vote_of vote)) vote.chain.decrees
message_is false nodes counts new known later voter vote added same = λ i. record unseen {
  votes = votes_heard nodes counts new known voter vote added i;
  known = known_in (same i) vote.chain.id;
}
message_is true nodes counts new known later voter vote added with = λ i. record unseen {
  votes = votes_heard nodes counts new known voter vote added i;
  known = (with.known vote.chain.id ∙ ap (λ (b : Bool). cond b (Some vote.chain.decrees) (known_in known vote.chain.id))
      (eq-eqb vote.chain.id vote.chain.id refl)) i;
}

-- ---- what a majority cast is known

shorter_still : (known : Option (List Decree)) (one other : List Decree) → IsShorter known one → pred (length one) < pred (length other) → IsShorter known other
shorter_still None one other is more = tt
shorter_still (Some old) one other is more = omega arith

not_itself : (n : ℕ) → n < n → ⊥
not_itself n less = omega arith

pub learned_more : (grows : Bool) (nodes : ℕ) (counts : List Count) (known later : List Chain) (vote : Cast) (place : Option ℕ) (voters : ℕ) →
    AreLearned nodes counts known → (IsTrue grows ↔ MakesKnown nodes known voters vote) → Grows grows known vote.chain later →
    AreLearned nodes (with_count counts place (count (slot_in vote) (vote_of vote) voters)) later
learned_more false nodes counts known later vote place voters learned decides same = record { each = each }
  where
    none : IsMajority nodes (has voters) → IsShorter (known_in known vote.chain.id) vote.chain.decrees → ⊥
    none most shorter = true≢false (sym (decides.1 (most, shorter)))

    each : (c : Count) → In c (with_count counts place (count (slot_in vote) (vote_of vote) voters)) → IsMajority nodes (has c.voters) →
        IsShorter (known_in later c.slot.id) c.vote.chain → ⊥
    each c is_in most shorter =
        let before = subst (λ (k : List Chain). IsShorter (known_in k c.slot.id) c.vote.chain) same shorter in
        elim (with_from counts place (count (slot_in vote) (vote_of vote) voters) c is_in) [
          | inl old ↦ learned.each c old most before
          | inr is ↦
              none
              (subst (λ (d : Count). IsMajority nodes (has d.voters)) is most)
              (subst (λ (d : Count). IsShorter (known_in known d.slot.id) d.vote.chain) is before)
        ]
learned_more true nodes counts known later vote place voters learned decides with = record { each = each }
  where
    each : (c : Count) → In c (with_count counts place (count (slot_in vote) (vote_of vote) voters)) → IsMajority nodes (has c.voters) →
        IsShorter (known_in later c.slot.id) c.vote.chain → ⊥
    each c is_in most shorter =
        let by : (test : Bool) → (c.slot.id == vote.chain.id) ≡ test → IsShorter (cond test (Some vote.chain.decrees) (known_in known c.slot.id)) c.vote.chain =
        λ test is. subst (λ (k : Option (List Decree)). IsShorter k c.vote.chain)
        (with.known c.slot.id ∙ ap (λ (b : Bool). cond b (Some vote.chain.decrees) (known_in known c.slot.id)) is) shorter in
        elim (with_from counts place (count (slot_in vote) (vote_of vote) voters) c is_in) [
          | inl old ↦ elim (cases_Bool (c.slot.id == vote.chain.id)) [
            | inl here ↦
                let ids : c.slot.id ≡ vote.chain.id = (Decides-eqb c.slot.id vote.chain.id).0 here in
                learned.each c old most
                (shorter_still (known_in known c.slot.id) vote.chain.decrees c.vote.chain
                (subst (λ (id : ℕ). IsShorter (known_in known id) vote.chain.decrees) (sym ids) (decides.0 refl).1)
                (by true here))
            | inr elsewhere ↦ learned.each c old most (by false elsewhere)
          ]
          | inr is ↦
              let ids : c.slot.id ≡ vote.chain.id = ap (λ (d : Count). d.slot.id) is in
              let longer : pred (length vote.chain.decrees) < pred (length c.vote.chain) = by true (eq-eqb c.slot.id vote.chain.id ids) in
              not_itself (pred (length vote.chain.decrees)) (subst (λ (d : Count). pred (length vote.chain.decrees) < pred (length d.vote.chain)) is longer)
        ]

-- ---- a vote that was counted already

pub added_again : (counts : List Count) (voter : ℕ) (slot : Slot) (vote : Vote) → IsCounted counts voter slot vote → IsAdded counts counts voter slot vote
added_again counts voter slot vote counted = record { before = λ node other cast was. was; this = counted; only = λ node other cast is. inl is }

pub grows_again : (nodes : ℕ) (counts : List Count) (known : List Chain) (voter : ℕ) (vote : Cast) → AreSingle counts →
    AreLearned nodes counts known → IsCounted counts voter (slot_in vote) (vote_of vote) →
    false ≡ makes_known nodes (heard (message_in (learned_of nodes counts known) vote.chain.id) voter (vote_of vote)) (vote_of vote)
grows_again nodes counts known voter vote single learned counted =
    let votes = votes_heard nodes counts counts known voter vote (added_again counts voter (slot_in vote) (vote_of vote) counted) in
    let are = test_is counts (slot_in vote) (vote_of vote) counted.voters
    (counted_are counts (slot_in vote) (vote_of vote) counted.voters single counted.stands) in
    let test : (heard (message_in (learned_of nodes counts known) vote.chain.id) voter (vote_of vote)).votes
    (vote_of vote) ≡ has counted.voters = sym (ap (λ (f : Vote → ℕ → Bool). f (vote_of vote)) votes) ∙ are in
    grows_is nodes counted.voters _ (known_in known vote.chain.id) vote.chain.decrees false test
    (λ t. absurd (true≢false (sym t)), λ makes. absurd (learned.each (count (slot_in vote) (vote_of vote) counted.voters) counted.stands makes.0 makes.1))

pub message_again : (nodes : ℕ) (counts : List Count) (known : List Chain) (voter : ℕ) (vote : Cast) → IsCounted counts voter (slot_in vote) (vote_of vote) →
    message_in (learned_of nodes counts known) vote.chain.id ≡ heard (message_in (learned_of nodes counts known) vote.chain.id) voter (vote_of vote)
message_again nodes counts known voter vote counted =
    message_is false nodes counts counts known known voter vote (added_again counts voter (slot_in vote) (vote_of vote) counted) refl

-- ---- one that was not

pub grows_new : (nodes : ℕ) (counts new : List Count) (known : List Chain) (voter : ℕ) (vote : Cast) (voters : ℕ) (grows : Bool) →
    IsAdded counts new voter (slot_in vote) (vote_of vote) →
    ((node : ℕ) → (has voters node ≡ true) ↔ IsCounted new node (slot_in vote) (vote_of vote)) → (IsTrue grows ↔ MakesKnown nodes known voters vote) →
    grows ≡ makes_known nodes (heard (message_in (learned_of nodes counts known) vote.chain.id) voter (vote_of vote)) (vote_of vote)
grows_new nodes counts new known voter vote voters grows added are decides =
    let votes = votes_heard nodes counts new known voter vote added in
    let test : (heard (message_in (learned_of nodes counts known) vote.chain.id) voter (vote_of vote)).votes (vote_of vote) ≡ has voters =
    sym (ap (λ (f : Vote → ℕ → Bool). f (vote_of vote)) votes) ∙ test_is new (slot_in vote) (vote_of vote) voters are in
    grows_is nodes voters _ (known_in known vote.chain.id) vote.chain.decrees grows test decides
