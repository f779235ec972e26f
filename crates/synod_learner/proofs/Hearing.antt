-- What a learner has heard, and what it knows, after one more vote.
use Rattle.std.proofs.Common.{◌≡◌, ◌↔◌, ℕ, pred, ◌<◌, ◌≤◌, Bool, true, false, cond, List, [], ◌∷◌, length, Option, Some, None, refl, sym}
use Rattle.std.proofs.Common.{ap, subst, ◌∙◌, inl, inr, arith, rules}
use Rattle.std.specs.Prelude.{◌==◌, IsTrue, OnErr, Result, Ok, Err, nat_lt}
use Rattle.std.proofs.lemmas.Bool.{cases_Bool, eqb-false, eqb-true, true≢false}
use Rattle.mc_types.specs.Nodes.{has}
use Rattle.mc_model.specs.message.Decree.{Decree}
use Rattle.mc_model.specs.message.Chain.{Chain}
use Rattle.mc_model.specs.synod.Lists.{In}
use Rattle.mc_model.specs.synod.Majority.{IsMajority}
use Rattle.mc_model.specs.synod.OneSlot.{Vote}
use Rattle.mc_model.specs.synod.Packet.{Packet, Slot, Voted, slot_at}
use Rattle.mc_model.specs.node.Knowledge.{IsKnown, IsLearned}
use Rattle.mc_parts.proofs.Majorities.{counted, majority_counts}
use Rattle.mc_parts.proofs.Known.{ToldNow}
use Rattle.mc_parts.proofs.Learning.{IsReached, IsShorter as IsBelow, known_reaches, known_stays, learned_again, longer_is_known, none_learned}
use Rattle.synod_acceptor.specs.declared.vote.Vote.{Vote as Cast}
use Rattle.synod_acceptor.specs.Votes.{slot_in, vote_of}
use Rattle.synod_learner.specs.Counts.{AreOfOthers, Count, Grows, IsCounted, Learned, WithChain, known_in}
use Rattle.synod_learner.specs.Hearing.{HasHeard, IsShorter, MakesKnown}
use Rattle.synod_learner.proofs.Counts.{IsAdded}

abbrev pub told_by : ℕ → Cast → Packet
told_by voter vote = Voted voter (slot_in vote) (vote_of vote)

abbrev pub learned_of : ℕ → List Count → List Chain → Learned
learned_of nodes counts known = record { nodes = nodes; counts = counts; known = known }

pub heard_nothing : (nodes : ℕ) → HasHeard (learned_of nodes [] []) []
heard_nothing nodes = record {
  votes = λ voter slot vote. (λ counted. counted.stands, λ none. absurd none);
  known = λ id place vote learned. none_learned nodes (slot_at id place) vote learned;
}

-- a packet that tells of this vote is of its message, place and chain
pub record IsOf (slot : Slot) (vote : Vote) (told : Cast) : Type 0 where
  pub slots : slot ≡ slot_in told
  pub votes : vote ≡ vote_of told

pub told_now : (voter : ℕ) (told : Cast) (slot : Slot) (vote : Vote) → ToldNow (told_by voter told) slot vote → IsOf slot vote told
told_now voter told slot vote now =
    let same : Voted now.acceptor slot vote ≡ Voted voter (slot_in told) (vote_of told) = now.same in
    record { slots = cc; votes = cc }

-- ---- a vote that was counted already

counted_as : (counts : List Count) (node voter : ℕ) (slot other : Slot) (vote cast : Vote) → Voted node other cast ≡ Voted voter slot vote →
    IsCounted counts voter slot vote →
    IsCounted counts node other cast
counted_as counts node voter slot other vote cast same here =
    let nodes : node ≡ voter = cc in
    let slots : other ≡ slot = cc in
    let casts : cast ≡ vote = cc in
    subst (λ (v : Vote). IsCounted counts node other v) (sym casts)
    (subst (λ (s : Slot). IsCounted counts node s vote) (sym slots) (subst (λ (n : ℕ). IsCounted counts n slot vote) (sym nodes) here))

pub heard_again : (l : Learned) (received : List Packet) (voter : ℕ) (vote : Cast) → HasHeard l received →
    IsCounted l.counts voter (slot_in vote) (vote_of vote) →
    HasHeard l (told_by voter vote ∷ received)
heard_again l received voter vote heard here = record {
  votes = λ node slot cast. (
    λ is. inr ((heard.votes node slot cast).0 is),
    λ is_in. elim is_in [
      | inl same ↦ counted_as l.counts node voter (slot_in vote) slot (vote_of vote) cast same here
      | inr before ↦ (heard.votes node slot cast).1 before
    ],
  );
  known = λ id. known_stays l.nodes (told_by voter vote) received id (known_in l.known id) (heard.known id) (λ place cast now learned.
      known_reaches l.nodes received (slot_at id place) cast (known_in l.known id) (heard.known id)
      (learned_again l.nodes (told_by voter vote) received (slot_at id place) cast
      ((heard.votes voter (slot_in vote) (vote_of vote)).0 here) learned));
}

-- ---- what teaches nothing

pub heard_other : (l : Learned) (received : List Packet) (packet : Packet) →
    ((voter : ℕ) (slot : Slot) (vote : Vote) → Voted voter slot vote ≡ packet → ⊥) → HasHeard l received →
    HasHeard l (packet ∷ received)
heard_other l received packet other heard = record {
  votes = λ node slot cast. (
    λ is. inr ((heard.votes node slot cast).0 is),
    λ is_in. elim is_in [
      | inl same ↦ absurd (other node slot cast same)
      | inr before ↦ (heard.votes node slot cast).1 before
    ],
  );
  known = λ id. known_stays l.nodes packet received id (known_in l.known id) (heard.known id)
      (λ place cast now learned. absurd (other now.acceptor (slot_at id place) cast now.same));
}

-- ---- one more vote

abbrev Votes : List Count → List Packet → Type 0
Votes counts received = (voter : ℕ) (slot : Slot) (vote : Vote) → IsCounted counts voter slot vote ↔ In (Voted voter slot vote) received

votes_more : (counts new : List Count) (received : List Packet) (voter : ℕ) (vote : Cast) → Votes counts received →
    IsAdded counts new voter (slot_in vote) (vote_of vote) →
    Votes new (told_by voter vote ∷ received)
votes_more counts new received voter vote votes added node slot cast = (
  λ is. elim (added.only node slot cast is) [
    | inl before ↦ inr ((votes node slot cast).0 before)
    | inr same ↦ inl same
  ],
  λ is_in. elim is_in [
    | inl same ↦ counted_as new node voter (slot_in vote) slot (vote_of vote) cast same added.this
    | inr before ↦ added.before node slot cast ((votes node slot cast).1 before)
  ],
)

-- the set of those who cast it decides whether it is a majority's
learned_counts : (nodes : ℕ) (new : List Count) (received : List Packet) (slot : Slot) (vote : Vote) (voters : ℕ) → Votes new received →
    ((node : ℕ) → (has voters node ≡ true) ↔ IsCounted new node slot vote) → IsMajority nodes (has voters) →
    IsLearned nodes received slot vote
learned_counts nodes new received slot vote voters votes are most =
    majority_counts nodes (λ acceptor. In (Voted acceptor slot vote) received) (has voters)
    (λ node least within passes. (votes node slot vote).0 ((are node).0 passes)) most

counts_learned : (nodes : ℕ) (new : List Count) (received : List Packet) (slot : Slot) (vote : Vote) (voters : ℕ) → Votes new received →
    ((node : ℕ) → (has voters node ≡ true) ↔ IsCounted new node slot vote) → IsLearned nodes received slot vote →
    IsMajority nodes (has voters)
counts_learned nodes new received slot vote voters votes are learned =
    counted nodes (λ acceptor. In (Voted acceptor slot vote) received) (has voters)
    (λ node least within is_in. (are node).1 ((votes node slot vote).1 is_in)) learned

-- what is not shorter reaches the place
reached : (known : Option (List Decree)) (chain : List Decree) → (IsShorter known chain → ⊥) → IsReached known (pred (length chain))
reached None chain never = never tt
reached (Some old) chain never = far never
  where
    far : (pred (length old) < pred (length chain) → ⊥) → pred (length chain) ≤ pred (length old)
    far none = omega arith

pub heard_more : (nodes : ℕ) (counts new : List Count) (known : List Chain) (received : List Packet) (voter : ℕ) (vote : Cast) (voters : ℕ) →
    HasHeard (learned_of nodes counts known) received → IsAdded counts new voter (slot_in vote) (vote_of vote) →
    ((node : ℕ) → (has voters node ≡ true) ↔ IsCounted new node (slot_in vote) (vote_of vote)) →
    (IsMajority nodes (has voters) → IsShorter (known_in known vote.chain.id) vote.chain.decrees → ⊥) →
    HasHeard (learned_of nodes new known) (told_by voter vote ∷ received)
heard_more nodes counts new known received voter vote voters heard added are never = record {
  votes = votes;
  known = λ id. known_stays nodes (told_by voter vote) received id (known_in known id) (heard.known id) (λ place cast now learned.
      let is = told_now voter vote (slot_at id place) cast now in
      let most = counts_learned nodes new (told_by voter vote ∷ received) (slot_in vote) (vote_of vote) voters votes are
      (subst (λ (v : Vote). IsLearned nodes (told_by voter vote ∷ received) (slot_in vote) v) is.votes
      (subst (λ (s : Slot). IsLearned nodes (told_by voter vote ∷ received) s cast) is.slots learned)) in
      let far = reached (known_in known vote.chain.id) vote.chain.decrees (never most) in
      let ids : vote.chain.id ≡ id = sym (ap (λ (s : Slot). s.id) is.slots) in
      let places : pred (length vote.chain.decrees) ≡ place = sym (ap (λ (s : Slot). s.place) is.slots) in
      subst (λ (p : ℕ). IsReached (known_in known id) p) places (subst (λ (i : ℕ). IsReached (known_in known i) (pred (length vote.chain.decrees))) ids far));
}
  where
    votes : Votes new (told_by voter vote ∷ received)
    votes = votes_more counts new received voter vote heard.votes added

-- what is known of this message, and of the others
known_now : (nodes : ℕ) (received : List Packet) (known later : List Chain) (chain : Chain) (id : ℕ) → WithChain known chain later →
    (id ≡ chain.id → IsKnown nodes received chain.id (Some chain.decrees)) →
    ((id ≡ chain.id → ⊥) → IsKnown nodes received id (known_in known id)) →
    IsKnown nodes received id (known_in later id)
known_now nodes received known later chain id with this other = elim (cases_Bool (id == chain.id)) [
  | inl same ↦
      let is = eqb-true id chain.id same in
      let now : known_in later id ≡ Some chain.decrees = with.known id ∙ ap (λ (b : Bool). cond b (Some chain.decrees) (known_in known id)) same in
      subst (λ (k : Option (List Decree)). IsKnown nodes received id k) (sym now)
      (subst (λ (i : ℕ). IsKnown nodes received i (Some chain.decrees)) (sym is) (this is))
  | inr differs ↦
      let still : known_in later id ≡ known_in known id = with.known id ∙ ap (λ (b : Bool). cond b (Some chain.decrees) (known_in known id)) differs in
      subst (λ (k : Option (List Decree)). IsKnown nodes received id k) (sym still) (other (λ is. not_same is differs))
]
  where
    not_same : id ≡ chain.id → (id == chain.id) ≡ false → ⊥
    not_same is differs = eqb-false id chain.id differs is

shorter_is : (known : Option (List Decree)) (chain : List Decree) → IsShorter known chain → IsBelow known chain
shorter_is None chain shorter = tt
shorter_is (Some old) chain shorter = shorter

pub heard_longer : (nodes : ℕ) (counts new : List Count) (known later : List Chain) (received : List Packet) (voter : ℕ) (vote : Cast) (voters : ℕ) →
    HasHeard (learned_of nodes counts known) received → IsAdded counts new voter (slot_in vote) (vote_of vote) →
    ((node : ℕ) → (has voters node ≡ true) ↔ IsCounted new node (slot_in vote) (vote_of vote)) → IsMajority nodes (has voters) →
    IsShorter (known_in known vote.chain.id) vote.chain.decrees → WithChain known vote.chain later →
    HasHeard (learned_of nodes new later) (told_by voter vote ∷ received)
heard_longer nodes counts new known later received voter vote voters heard added are most shorter with = record {
  votes = votes;
  known = λ id. known_now nodes (told_by voter vote ∷ received) known later vote.chain id with
      (λ is. longer_is_known nodes voter vote.ballot received vote.chain.id (known_in known vote.chain.id) vote.chain.decrees
      (heard.known vote.chain.id) (shorter_is (known_in known vote.chain.id) vote.chain.decrees shorter)
      (learned_counts nodes new (told_by voter vote ∷ received) (slot_in vote) (vote_of vote) voters votes are most))
      (λ differs. known_stays nodes (told_by voter vote) received id (known_in known id) (heard.known id) (λ place cast now learned.
      let is = told_now voter vote (slot_at id place) cast now in absurd (differs (ap (λ (s : Slot). s.id) is.slots))));
}
  where
    votes : Votes new (told_by voter vote ∷ received)
    votes = votes_more counts new received voter vote heard.votes added

-- ---- both together

pub heard_new : (grows : Bool) (nodes : ℕ) (counts new : List Count) (known later : List Chain) (received : List Packet) (voter : ℕ)
    (vote : Cast) (voters : ℕ) → IsAdded counts new voter (slot_in vote) (vote_of vote) →
    ((node : ℕ) → (has voters node ≡ true) ↔ IsCounted new node (slot_in vote) (vote_of vote)) →
    (IsTrue grows ↔ MakesKnown nodes known voters vote) → Grows grows known vote.chain later →
    HasHeard (learned_of nodes counts known) received →
    HasHeard (learned_of nodes new later) (told_by voter vote ∷ received)
heard_new true nodes counts new known later received voter vote voters added are decides with heard =
    let makes = decides.0 refl in
    heard_longer nodes counts new known later received voter vote voters heard added are makes.0 makes.1 with
heard_new false nodes counts new known later received voter vote voters added are decides same heard =
    subst (λ (k : List Chain). HasHeard (learned_of nodes new k) (told_by voter vote ∷ received)) (sym same)
    (heard_more nodes counts new known received voter vote voters heard added are (λ most shorter. true≢false (sym (decides.1 (most, shorter)))))

pub others_grown : (grows : Bool) (known later : List Chain) (chain : Chain) → AreOfOthers known → Grows grows known chain later → AreOfOthers later
others_grown true known later chain others with = with.others
others_grown false known later chain others same = subst AreOfOthers (sym same) others

-- ---- places

pub shorter_by : (known : Option (List Decree)) (old new : List Decree) (one two : ℕ) → known ≡ Some old → one ≡ pred (length old) →
    two ≡ pred (length new) →
    IsTrue (nat_lt one two) ↔ IsShorter known new
shorter_by known old new one two is ones twos = rw (is, ones, twos) (search (rules, arith))

pub on_err : {A E : Type 0} (result : Result A E) (P : Type 0) → P → OnErr result P
on_err (Ok x) P holds = tt
on_err (Err e) P holds = holds
